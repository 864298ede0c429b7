-- The names of a module (IEEE 1364-2005, 3.7, with this project's list of reserved words).
use Rattle.std.specs.Str.{bytes_eq}
use Rattle.std.specs.List.{list_all, list_any, starts_with}
use Rattle.std.specs.Prelude.{◌≡◌, ℕ, Bool, false, not, ◌&&◌, ◌||◌, ◌==◌, nat_le, nat_eq, List, [], ◌∷◌, codes}

abbrev pub is_digit : ℕ → Bool
is_digit b = nat_le 48 b && nat_le b 57

-- a letter or _
abbrev pub is_name_start : ℕ → Bool
is_name_start b = nat_le 65 b && nat_le b 90 || nat_le 97 b && nat_le b 122 || b == 95

-- a letter, a digit, _ or $
abbrev pub is_name_byte : ℕ → Bool
is_name_byte b = is_name_start b || is_digit b || b == 36

abbrev pub is_name : List ℕ → Bool
is_name [] = false
is_name (b ∷ bs) = is_name_start b && list_all is_name_byte bs

abbrev pub reserved_words : List (List ℕ)
reserved_words = codes "module" ∷ codes "input" ∷ codes "output" ∷ codes "wire" ∷ codes "reg" ∷ codes "assign" ∷ codes "always" ∷ codes "posedge" ∷ codes "negedge" ∷ codes "or" ∷ codes "if" ∷ codes "else" ∷ codes "endmodule" ∷ []

abbrev pub is_identifier : List ℕ → Bool
is_identifier name = is_name name && not (list_any (λ w. bytes_eq w name) reserved_words)

-- an identifier that no wire of a printed module has: those are n$0, n$1 and so on
abbrev pub is_net_name : List ℕ → Bool
is_net_name name = is_identifier name && not (starts_with nat_eq name (codes "n$"))

-- the input of this name is the clock
abbrev pub clock : List ℕ
clock = codes "PCLK"

-- none of these names is the name
abbrev pub Lacks : List (List ℕ) → List ℕ → Type 0
Lacks names name = list_any (bytes_eq name) names ≡ false
