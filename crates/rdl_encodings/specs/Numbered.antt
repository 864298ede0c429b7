-- Fields whose enumerations have numbers.
use Rattle.std.specs.Prelude.{◌≡◌, ℕ, List, [], ◌∷◌, ◌++◌, Option, Some, is_some, option_and_then}
use Rattle.rdl_values.specs.Instances.{Instance}
use Rattle.rdl_values.specs.Values.{EnumOf}
use Rattle.rdl_encodings.specs.Encoded.{encoded_by, firsts}
use Rattle.rdl_encodings.specs.Enums.{enum_found}
use Rattle.rdl_encodings.specs.Keyed.{AreDistinct}
use Rattle.rdl_encodings.specs.Known.{known_at}
use Rattle.rdl_encodings.specs.Same.{number_in}
use Rattle.rdl_encodings.specs.declared.enums.Enums.{Enums}
use Rattle.rdl_encodings.specs.declared.known.Known.{Known}
use Rattle.rdl_encodings.specs.declared.numbering.Numbering.{Numbering}
use Rattle.rdl_encodings.specs.declared.numbers.Numbers.{Numbers}

-- Numbers that are known are those of enumerations among these.
pub record AreKnown (k : Known) (t : Enums) (ls : List (ℕ × EnumOf)) : Type 0 where
  pub each : (name : List ℕ) (body number n : ℕ) → known_at k body number ≡ Some n → number_in ls (enum_found t name (body, number)) ≡ Some n

-- They are those of these enumerations, which stand beside the numbers of fields.
pub record AreNumbers (n : Numbers) (t : Enums) (ls : List (ℕ × EnumOf)) : Type 0 where
  pub known_ : AreKnown n.known t ls
  pub distinct_ : AreDistinct n.distinct ls

-- the number of the enumeration of a field, if it is encoded by one
pub record IsNumberOf (ls : List (ℕ × EnumOf)) (f : Instance) (o : Option ℕ) : Type 0 where
  pub number : o ≡ option_and_then (number_in ls) (encoded_by f)
  pub some : is_some o ≡ is_some (encoded_by f)

-- one by one
abbrev pub AreNumbersOf : List (ℕ × EnumOf) → List (Option ℕ) → List Instance → Type 0
AreNumbersOf ls [] [] = Unit {0}
AreNumbersOf ls (o ∷ os) (f ∷ fs) = IsNumberOf ls f o × AreNumbersOf ls os fs
AreNumbersOf ls _ _ = ⊥

-- The enumerations of these fields have numbers, and so have the fields.
pub record AreNumbered (n : Numbering) (t : Enums) (fs : List Instance) : Type 0 where
  pub numbers_ : AreNumbers n.numbers t (firsts fs)
  pub fields_ : AreNumbersOf (firsts fs) n.fields.items fs

-- So has that of one more field, and this is its number.
pub record IsNext (n : Numbering) (t : Enums) (fs : List Instance) (f : Instance) (o : Option ℕ) : Type 0 where
  pub numbers_ : AreNumbers n.numbers t (firsts (fs ++ (f ∷ [])))
  pub fields_ : AreNumbersOf (firsts (fs ++ (f ∷ []))) n.fields.items fs
  pub number_ : IsNumberOf (firsts (fs ++ (f ∷ []))) f o
