-- Texts of a source as HTML (HTML Living Standard, 13.1.3 and 13.1.4).
use Rattle.std.specs.Prelude.{ℕ, ◌-◌, ◌==◌, Bool, true, false, not, ◌&&◌, ◌||◌, cond, nat_le, nat_lt, List, [], ◌∷◌, ◌++◌, codes, flat_map, fold}
use Rattle.html_text.specs.declared.escaped.Awaited.{Awaited}

-- A string token's bytes mean these: a backslash takes the byte behind it (SystemRDL 2.0, 4.4).
abbrev pub meant_from : Bool → List ℕ → List ℕ
meant_from taken [] = []
meant_from true (b ∷ bs) = b ∷ meant_from false bs
meant_from false (b ∷ bs) = cond (b == 92) (meant_from true bs) (b ∷ meant_from false bs)

-- a backslash that takes the byte behind it
abbrev pub takes : (taken : Bool) → ℕ → Bool
takes true b = false
takes false b = b == 92

-- UTF-8 (RFC 3629, clause 4): how many bytes are still to come of a character, between which numbers the next one is, and whether a
-- byte was wrong
abbrev pub awaits : (left low high : ℕ) → Awaited
awaits left low high = record { bad = false; left = left; low = low; high = high }

abbrev pub wrong : Awaited
wrong = record { bad = true; left = 0; low = 0; high = 0 }

abbrev pub is_between : (low high b : ℕ) → Bool
is_between low high b = nat_le low b && nat_le b high

-- behind the first byte of a character of three bytes
abbrev pub of_three : ℕ → Awaited
of_three b = cond (b == 224) (awaits 2 160 191) (cond (b == 237) (awaits 2 128 159) (awaits 2 128 191))

abbrev pub of_four : ℕ → Awaited
of_four b = cond (b == 240) (awaits 3 144 191) (cond (b == 244) (awaits 3 128 143) (awaits 3 128 191))

abbrev pub behind_first : ℕ → Awaited
behind_first b = cond (nat_lt b 128) (awaits 0 0 0) (cond (is_between 194 223 b) (awaits 1 128 191) (cond (is_between 224 239 b) (of_three b) (cond (is_between 240 244 b) (of_four b) wrong)))

abbrev pub behind_byte : Awaited → ℕ → Awaited
behind_byte a b = cond a.bad wrong (cond (a.left == 0) (behind_first b) (cond (is_between a.low a.high b) (awaits (a.left - 1) 128 191) wrong))

abbrev pub at_end : List ℕ → Awaited
at_end bytes = fold behind_byte (awaits 0 0 0) bytes

abbrev pub is_utf8 : List ℕ → Bool
is_utf8 bytes = not (at_end bytes).bad && (at_end bytes).left == 0

-- printable ASCII, tab, line feed, form feed and carriage return
abbrev pub stands : ℕ → Bool
stands b = (nat_le 32 b && nat_lt b 127) || (b == 9) || (b == 10) || (b == 12) || (b == 13)

-- a byte of a text that is UTF-8, or isn't
abbrev pub reference : (good : Bool) → ℕ → List ℕ
reference good b =
    cond (b == 38) (codes "&amp;") (cond (b == 60) (codes "&lt;") (cond (b == 62) (codes "&gt;") (cond (b == 34) (codes "&quot;") (cond (b == 39) (codes "&#39;")
    (cond (stands b || (good && nat_le 128 b)) (b ∷ []) (codes "&#xFFFD;"))))))

abbrev pub escaped : List ℕ → List ℕ
escaped bytes = flat_map (reference (is_utf8 bytes)) (meant_from false bytes)

-- what a byte adds
abbrev pub added : (good taken : Bool) → ℕ → List ℕ
added good taken b = cond (takes taken b) [] (reference good b)
