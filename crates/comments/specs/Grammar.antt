-- Comments by their grammar, RFC 2822, section 3.2.3: ctext, quoted-pair, ccontent and comment. White space that folds is ctext here, and
-- ctext is any byte but the three that mean something.
use Rattle.std.specs.Prelude.{◌≡◌, ℕ, ◌+◌, true, ◌≢◌, ◌↔◌, List, [], ◌∷◌, ◌++◌, length, Ok, Result}
use Rattle.std.proofs.Math.Utf8.{encodes, scalars}
use Rattle.scan.specs.declared.kind.ParseErrorKind.{ParseErrorKind}
use Rattle.text.specs.Chars.{all_pass, blank}

-- neither '(' nor ')' nor '\'
pub record Plain (b : ℕ) : Type 0 where
  pub no_open : b ≢ 40
  pub no_close : b ≢ 41
  pub no_quote : b ≢ 92

-- what stands in a comment: plain bytes, quoted pairs and comments, in a row
pub data Content : List ℕ → Type 0 where
  none : Content []
  plain : {xs : List ℕ} (b : ℕ) → Plain b → Content xs → Content (b ∷ xs)
  quoted : {xs : List ℕ} (b : ℕ) → Content xs → Content (92 ∷ b ∷ xs)
  nested : {xs ys : List ℕ} → Content xs → Content ys → Content (40 ∷ (xs ++ 41 ∷ ys))

pub record Comment (cs : List ℕ) : Type 0 where
  pub inner : List ℕ
  pub content : Content inner
  pub bytes : cs ≡ 40 ∷ (inner ++ 41 ∷ [])

-- the bytes of some characters that are all blanks
pub record Blanks (ws : List ℕ) : Type 0 where
  pub chars : List ℕ
  pub scalar : scalars chars ≡ true
  pub blank : all_pass blank chars ≡ true
  pub bytes : encodes chars ≡ ws

-- s begins with blanks and one comment, that together take n bytes
pub record Commented (s : List ℕ) (n : ℕ) : Type 0 where
  pub ws : List ℕ
  pub cs : List ℕ
  pub rest : List ℕ
  pub blanks : Blanks ws
  pub comment : Comment cs
  pub bytes : s ≡ ws ++ (cs ++ rest)
  pub count : n ≡ length ws + length cs

-- an answer is granted with n bytes exactly where the grammar has n
abbrev pub Exactly : List ℕ → Result ℕ ParseErrorKind → Type 0
Exactly s r = (n : ℕ) → (r ≡ Ok n) ↔ Commented s n
