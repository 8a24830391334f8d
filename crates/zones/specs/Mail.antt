-- The zones of mail, by RFC 2822, sections 3.3 and 4.3: a number, or a name in ASCII letters, case ignored.
use Rattle.std.specs.Prelude.{ℕ, ◌*◌, false, cond, List, [], ◌∷◌, map, take, ℤ, pos, neg_ℤ, Some, None, Ok, Err, codes, Option, Result, ◌==◌}
use Rattle.std.specs.Borrow.{Bor}
use Rattle.std.specs.List.{prefix_len}
use Rattle.std.specs.Option.{option_or}
use Rattle.scan.specs.Letters.{alike}
use Rattle.scan.specs.declared.kind.ParseErrorKind.{ParseErrorKind}
use Rattle.scan.specs.declared.kind.ParseErrorKind.TheVariants.{Invalid}
use Rattle.std.specs.Char.{is_ascii_alphabetic, to_ascii_lowercase}
use Rattle.zones.specs.Separators.{nothing_at}
use Rattle.zones.specs.Offsets.{offset_at}

-- the table of section 4.3: by how many hours a zone is behind UTC
abbrev pub zone_table : List (List ℕ × ℕ)
zone_table =
    (codes "ut", 0) ∷ (codes "gmt", 0) ∷ (codes "edt", 4) ∷ (codes "est", 5) ∷ (codes "cdt", 5) ∷ (codes "cst", 6) ∷ (codes "mdt", 6)
    ∷ (codes "mst", 7) ∷ (codes "pdt", 7) ∷ (codes "pst", 8) ∷ []

-- the hours of a name by a table
unfoldable pub listed : List (List ℕ × ℕ) → List ℕ → Option ℕ
listed [] name = None
listed (z ∷ zs) name = cond (alike name z.0) (Some z.1) (listed zs name)

-- what a table of references to names says
abbrev pub entries : List (Bor (List ℕ) × ℕ) → List (List ℕ × ℕ)
entries zs = map (λ z. (z.0.now, z.1)) zs

-- a single letter is a military zone, all but J; they are to be taken for UTC
abbrev pub military : List ℕ → Option ℕ
military [] = None
military (a ∷ []) = cond (to_ascii_lowercase a == 106) None (Some 0)
military (a ∷ b ∷ bs) = None

-- the hours behind UTC of a name
unfoldable pub behind : List ℕ → Option ℕ
behind name = option_or (listed zone_table name) (military name)

-- how many letters stand in front
unfoldable pub letters_at : List ℕ → ℕ
letters_at s = prefix_len is_ascii_alphabetic s

abbrev pub named : ℕ → Option ℕ → Result (ℤ × ℕ) ParseErrorKind
named n None = Err Invalid
named n (Some h) = Ok (neg_ℤ (pos (h * 3600)), n)

-- a name where letters stand, else a number
unfoldable pub offset_2822_at : List ℕ → Result (ℤ × ℕ) ParseErrorKind
offset_2822_at s = cond (letters_at s == 0) (offset_at nothing_at false false false s) (named (letters_at s) (behind (take (letters_at s) s)))
