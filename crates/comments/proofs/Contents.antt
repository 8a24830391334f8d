-- A comment ends where its grammar says.
use Rattle.std.proofs.Common.{◌≡◌, ℕ, zero, suc, ◌+◌, ◌-◌, Bool, true, false, eqb, ◌≢◌, List, [], ◌∷◌, ◌++◌, length, Ok, Result, sym, refl, ap, ◌∙◌, subst, ⊎_elim, arith, length-append}
use Rattle.std.proofs.lemmas.List.{append_assoc}
use Rattle.std.proofs.lemmas.Bool.{cases_eq, cond-false, ne_eqb}
use Rattle.std.proofs.lemmas.Bool.Decides.{nat_tests}
use Rattle.scan.specs.declared.kind.ParseErrorKind.{ParseErrorKind}
use Rattle.comments.specs.Comments.{inside, closes_at}
use Rattle.comments.specs.Grammar.{Plain, Content, none, plain, quoted, nested, Comment}

-- one byte, by its kind
at_plain : (n d b : ℕ) (bs : List ℕ) → Plain b → inside n d false (b ∷ bs) ≡ inside (n + 1) d false bs
at_plain n d b bs p =
    let h = p.no_open in
    let k = p.no_close in
    let q = p.no_quote in
    grind (arith, nat_tests)

at_close : (n d : ℕ) (bs : List ℕ) → inside n (d + 1) false (41 ∷ bs) ≡ inside (n + 1) d false bs
at_close n d bs =
    cond-false (eqb (d + 1) 0) (Ok (n + 1)) (inside (n + 1) (d + 1 - 1) false bs) (ne_eqb (d + 1) 0 (λ e. omega arith))
    ∙ ap (λ k. inside (n + 1) k false bs) (omega arith)

-- content is passed over
passed : {xs : List ℕ} → Content xs → (n d : ℕ) (ys : List ℕ) → inside n d false (xs ++ ys) ≡ inside (n + length xs) d false ys
passed none n d ys = ap (λ k. inside k d false ys) (omega arith)
passed (plain {xs = xs} b p c) n d ys = at_plain n d b (xs ++ ys) p ∙ (passed c (n + 1) d ys ∙ ap (λ k. inside k d false ys) (omega arith))
passed (quoted b c) n d ys = passed c (n + 1 + 1) d ys ∙ ap (λ k. inside k d false ys) (omega arith)
passed (nested {xs = xs} {ys = zs} c e) n d ys =
    let l = length-append xs (41 ∷ zs) in
    let k = n + 1 + length xs in
    ap (inside (n + 1) (d + 1) false) (append_assoc xs (41 ∷ zs) ys)
    ∙ (passed c (n + 1) (d + 1) (41 ∷ (zs ++ ys))
    ∙ (at_close k d (zs ++ ys) ∙ (passed e (k + 1) d ys ∙ ap (λ k. inside k d false ys) (omega arith))))

-- a comment in front is taken whole
pub complete : (cs rest : List ℕ) → Comment cs → closes_at (cs ++ rest) ≡ Ok (length cs)
unfolding closes_at
complete cs rest c =
    let xs = c.inner in
    let l : length cs ≡ suc (length (xs ++ 41 ∷ [])) = ap length c.bytes in
    let k = length-append xs (41 ∷ []) in
    let e : closes_at (cs ++ rest) ≡ inside 1 0 false ((xs ++ 41 ∷ []) ++ rest) = ap (λ x. closes_at (x ++ rest)) c.bytes in
    e ∙ (ap (inside 1 0 false) (append_assoc xs (41 ∷ []) rest) ∙ (passed c.content 1 0 (41 ∷ rest) ∙ ap Ok (omega arith)))

-- content and ')', d + 1 times
abbrev Open : ℕ → List ℕ → Type 0
Open zero xs = (a : List ℕ) × Content a × (xs ≡ a ++ 41 ∷ [])
Open (suc d) xs = (a : List ℕ) × (b : List ℕ) × Content a × (xs ≡ a ++ 41 ∷ b) × Open d b

-- the first content grows in front
grow : (d : ℕ) (pre xs : List ℕ) → ((a : List ℕ) → Content a → Content (pre ++ a)) → Open d xs → Open d (pre ++ xs)
grow zero pre xs f o = (pre ++ o.0, f o.0 o.1, ap (λ x. pre ++ x) o.2 ∙ sym (append_assoc pre o.0 (41 ∷ [])))
grow (suc d) pre xs f o = (pre ++ o.0, o.1, f o.0 o.2, ap (λ x. pre ++ x) o.3 ∙ sym (append_assoc pre o.0 (41 ∷ o.1)), o.4)

-- a comment opens
deepen : (d : ℕ) (xs : List ℕ) → Open (suc d) xs → Open d (40 ∷ xs)
deepen d xs o =
    let a = o.0 in
    let pre = 40 ∷ (a ++ 41 ∷ []) in
    let f : (x : List ℕ) → Content x → Content (pre ++ x) = λ x c. subst Content (ap (λ l. 40 ∷ l) (sym (append_assoc a (41 ∷ []) x))) (nested o.2 c) in
    let e : pre ++ o.1 ≡ 40 ∷ xs = ap (λ l. 40 ∷ l) (append_assoc a (41 ∷ []) o.1 ∙ sym o.3) in
    subst (Open d) e (grow d pre o.1 f o.4)

-- behind a backslash, any byte first
abbrev After : Bool → ℕ → List ℕ → Type 0
After false d xs = Open d xs
After true d xs = (b : ℕ) × (ys : List ℕ) × (xs ≡ b ∷ ys) × Open d ys

quotes : (d b : ℕ) (xs : List ℕ) → b ≡ 92 → After true d xs → Open d (b ∷ xs)
quotes d b xs e o =
    let q : 92 ∷ o.0 ∷ o.1 ≡ b ∷ xs = cc in
    subst (Open d) q (grow d (92 ∷ o.0 ∷ []) o.1 (λ a c. quoted o.0 c) o.3)

-- what was taken where an answer m is granted
record Taken (esc : Bool) (n d m : ℕ) (bs : List ℕ) : Type 0 where
  xs : List ℕ
  rest : List ℕ
  bytes : bs ≡ xs ++ rest
  count : m ≡ n + length xs
  shape : After esc d xs

-- what the bytes behind n others give
abbrev Gives : ℕ → ℕ → List ℕ → Type 0
Gives n m bs = (esc : Bool) (d : ℕ) → inside n d esc bs ≡ Ok m → Taken esc n d m bs

-- one byte more, by its kind
module _ (n m b : ℕ) (bs : List ℕ) (rest : Gives (n + 1) m bs) where
  more : (e f : Bool) (d k : ℕ) → ((xs : List ℕ) → After f k xs → After e d (b ∷ xs)) → inside (n + 1) k f bs ≡ Ok m → Taken e n d m (b ∷ bs)
  more e f d k g z =
      let t = rest f k z in
      let c = t.count in
      record { xs = b ∷ t.xs; rest = t.rest; bytes = ap (λ l. b ∷ l) t.bytes; count = omega arith; shape = g t.xs t.shape }

  by_any : (d : ℕ) → inside (n + 1) d false bs ≡ Ok m → Taken true n d m (b ∷ bs)
  by_any d z = more true false d d (λ xs o. (b, xs, refl, o)) z

  by_quote : (d : ℕ) → inside n d false (b ∷ bs) ≡ Ok m → b ≡ 92 → Taken false n d m (b ∷ bs)
  by_quote d e q = more false true d d (λ xs o. quotes d b xs q o) (grind (arith, nat_tests))

  by_open : (d : ℕ) → inside n d false (b ∷ bs) ≡ Ok m → b ≡ 40 → Taken false n d m (b ∷ bs)
  by_open d e q =
      let z : inside (n + 1) (suc d) false bs ≡ Ok m = grind (arith, nat_tests) in
      more false false d (suc d) (λ xs o. subst (λ x. Open d (x ∷ xs)) (sym q) (deepen d xs o)) z

  by_close : (d : ℕ) → inside n d false (b ∷ bs) ≡ Ok m → b ≡ 41 → Taken false n d m (b ∷ bs)
  by_close zero e q =
      let z : ◌≡◌ {A = Result ℕ ParseErrorKind} (Ok (n + 1)) (Ok m) = grind (arith, nat_tests) in
      let y : n + 1 ≡ m = cc in
      record { xs = b ∷ []; rest = bs; bytes = refl; count = omega arith; shape = ([], none, ap (λ x. x ∷ []) q) }
  by_close (suc d) e q =
      let z : inside (n + 1) d false bs ≡ Ok m = grind (arith, nat_tests) in
      more false false (suc d) d (λ xs o. ([], xs, none, ap (λ x. x ∷ xs) q, o)) z

  by_plain : (d : ℕ) → inside n d false (b ∷ bs) ≡ Ok m → Plain b → Taken false n d m (b ∷ bs)
  by_plain d e p = more false false d d (λ xs o. grow d (b ∷ []) xs (λ a c. plain b p c) o) (sym (at_plain n d b bs p) ∙ e)

  by_rest : (d : ℕ) → inside n d false (b ∷ bs) ≡ Ok m → b ≢ 92 → b ≢ 40 → Taken false n d m (b ∷ bs)
  by_rest d e p q = ⊎_elim (by_close d e) (λ r. by_plain d e (record { no_open = q; no_close = r; no_quote = p })) (cases_eq b 41)

  by_kind : (d : ℕ) → inside n d false (b ∷ bs) ≡ Ok m → Taken false n d m (b ∷ bs)
  by_kind d e = ⊎_elim (by_quote d e) (λ p. ⊎_elim (by_open d e) (λ q. by_rest d e p q) (cases_eq b 40)) (cases_eq b 92)

taken : (bs : List ℕ) (n m : ℕ) → Gives n m bs
taken [] n m esc d e = absurd (let z : ◌≡◌ {A = ℕ} 0 1 = cc in omega arith)
taken (b ∷ bs) n m true d e = by_any n m b bs (taken bs (n + 1) m) d e
taken (b ∷ bs) n m false d e = by_kind n m b bs (taken bs (n + 1) m) d e

-- a comment stands in front, of m bytes
pub record Stands (s : List ℕ) (m : ℕ) : Type 0 where
  pub cs : List ℕ
  pub rest : List ℕ
  pub comment : Comment cs
  pub bytes : s ≡ cs ++ rest
  pub count : m ≡ length cs

opened : (b m : ℕ) (bs : List ℕ) → b ≡ 40 → inside 1 0 false bs ≡ Ok m → Stands (b ∷ bs) m
opened b m bs q e =
    let t = taken bs 1 m false 0 e in
    let c = t.count in
    let o = t.shape in
    let h : Comment (b ∷ t.xs) = record { inner = o.0; content = o.1; bytes = cc } in
    record { cs = b ∷ t.xs; rest = t.rest; comment = h; bytes = ap (λ l. b ∷ l) t.bytes; count = omega arith }

-- where an answer is granted, one does
pub sound : (s : List ℕ) (m : ℕ) → closes_at s ≡ Ok m → Stands s m
unfolding closes_at
sound [] m e = absurd (let z : ◌≡◌ {A = ℕ} 0 1 = cc in omega arith)
sound (b ∷ bs) m e = ⊎_elim (λ q. opened b m bs q (grind (arith, nat_tests))) (λ n. absurd (grind (arith, nat_tests))) (cases_eq b 40)
