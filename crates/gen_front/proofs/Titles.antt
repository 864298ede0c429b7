-- The name of a module: that of its block, and a suffix that begins with _.
use Rattle.std.specs.List.{list_all, list_any}
use Rattle.std.specs.Str.{bytes_eq}
use Rattle.std.proofs.Common.{◌≡◌, ℕ, ◌==◌, Bool, true, false, not, ◌&&◌, List, [], ◌∷◌, ◌++◌, IsTrue, refl, arith}
use Rattle.std.proofs.lemmas.Bool.Decides.{nat_tests}
use Rattle.v_design.proofs.Tests.{and-left, and-right, among-passes, all_bytes-at}
use Rattle.v_design.specs.Lexemes as design
use Rattle.rtl_net.specs.Names.{is_name_start, is_name_byte, is_name, is_identifier, reserved_words}
use Rattle.rb_model.specs.declared.block.Block.{Block}
use Rattle.rb_model.specs.Sound.{IsSound}
use Rattle.gen_scene.proofs.ResetPins.{bytes_wider}

start_wider : (c : ℕ) → design.is_name_start c ≡ true → is_name_start c ≡ true
start_wider c h = grind (arith, nat_tests)

all-append : (p : ℕ → Bool) (xs ys : List ℕ) → list_all p xs ≡ true → list_all p ys ≡ true → list_all p (xs ++ ys) ≡ true
all-append p [] ys a c = c
all-append p (x ∷ xs) ys a c = rw (and-left (p x) (list_all p xs) a) (all-append p xs ys (and-right (p x) (list_all p xs) a) c)

-- no reserved word has a _
plain : List ℕ → Bool
plain w = list_all (λ c. not (c == 95)) w

reserved_plain : (name rest : List ℕ) → list_any (λ w. bytes_eq w (name ++ 95 ∷ rest)) reserved_words ≡ true → false ≡ true
unfolding plain
reserved_plain name rest h = all_bytes-at (λ c. not (c == 95)) name 95 rest (among-passes plain reserved_words (name ++ 95 ∷ rest) refl h)

both : (x y : Bool) → x ≡ true → (y ≡ true → false ≡ true) → (x && not y) ≡ true
both x true p q = let f : false ≡ true = q refl in cc
both x false p q = rw p

suffixed : (name rest : List ℕ) → design.is_name name ≡ true → list_all is_name_byte rest ≡ true → is_name (name ++ 95 ∷ rest) ≡ true
suffixed [] rest h r = cc
suffixed (c ∷ bs) rest h r =
    rw (start_wider c (and-left (design.is_name_start c) (list_all design.is_name_byte bs) h))
    (all-append is_name_byte bs (95 ∷ rest) (bytes_wider bs (and-right (design.is_name_start c) (list_all design.is_name_byte bs) h)) r)

pub module_named : (b : Block) → IsSound b → (rest : List ℕ) → list_all is_name_byte rest ≡ true → IsTrue (is_identifier (b.name ++ 95 ∷ rest))
module_named b sound rest r =
    let named : design.is_name b.name ≡ true = and-left (design.is_name b.name) (list_all (λ c. not (c == 36)) b.name) sound.named in
    both (is_name (b.name ++ 95 ∷ rest)) (list_any (λ w. bytes_eq w (b.name ++ 95 ∷ rest)) reserved_words) (suffixed b.name rest named r) (reserved_plain b.name rest)
