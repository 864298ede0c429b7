-- What holds of all orders that are judged.
use Rattle.std.proofs.Common.{◌≡◌, ℕ, Bool, true, false, nat_lt, if◌then◌else◌, ◌∷◌, [], List, Option, None, Some, Ok, Err, IfOk, refl, subst}
use Rattle.rb_model.specs.declared.block.Block.{Block}
use Rattle.stim_csv.specs.Numeral.{cell_value, fits, numeral_value}
use Rattle.drive_names.specs.declared.table.Meaning.{Meaning}
use Rattle.drive_names.specs.Named.{meaning_of, named_inputs, named_outputs, named_words}
use Rattle.drive_lang.specs.declared.order.Order.{Order}
use Rattle.drive_lang.specs.declared.order.Order.TheVariants.{Poke, Peek, Expect, Set, See, Wait, Reset}
use Rattle.drive_lang.specs.Steps.{vectors_of}
use Rattle.drive_lang.specs.declared.error.DriveError.TheVariants.{TooWide, Many}
use Rattle.drive_lang.specs.declared.verb.Verb.{Verb}
use Rattle.drive_lang.specs.declared.verb.Verb.TheVariants as verb
use Rattle.drive_lang.specs.Orders.{Judged, counted, fitting, named, order_of, spelled, with_one, with_two, with_value, within}
use Rattle.drive_lang.specs.Verbs.{verb_of}

module _ (P : Order → Type 0) where
  keeps_within : (line room : ℕ) (j : Judged) → IfOk j P → IfOk (within line room j) P
  keeps_within line room (Err e) h = tt
  keeps_within line room (Ok o) h = go (nat_lt room (vectors_of o))
    where
      go : (c : Bool) → IfOk (if c then Err (Many line) else Ok o) P
      go true = tt
      go false = h

  keeps_named : (line : ℕ) (m : Option Meaning) (f : Meaning → Judged) → ((x : Meaning) → m ≡ Some x → IfOk (f x) P) → IfOk (named line m f) P
  keeps_named line None f h = tt
  keeps_named line (Some x) f h = h x refl

  keeps_fitting : (line v : ℕ) (f : ℕ → Order) (m : Meaning) → (fits m.width v ≡ true → P (f m.at)) → IfOk (fitting line v f m) P
  keeps_fitting line v f m h = go (fits m.width v) refl
    where
      go : (c : Bool) → fits m.width v ≡ c → IfOk (if c then Ok (f m.at) else Err (TooWide line)) P
      go true e = h e
      go false e = tt

  keeps_counted : (line : ℕ) (f : ℕ → Order) (o : Option ℕ) → ((n : ℕ) → P (f n)) → IfOk (counted line f o) P
  keeps_counted line f None h = tt
  keeps_counted line f (Some n) h = h n

  module _ (b : Block)
      (pokes : (name : List ℕ) (m : Meaning) (v : ℕ) → meaning_of (named_words b) name ≡ Some m → fits m.width v ≡ true → P (Poke m.at v))
      (peeks : (name : List ℕ) (m : Meaning) → meaning_of (named_words b) name ≡ Some m → P (Peek m.at name))
      (expects : (name : List ℕ) (m : Meaning) (v : ℕ) → meaning_of (named_words b) name ≡ Some m → fits m.width v ≡ true → P (Expect m.at v name))
      (sets : (name : List ℕ) (m : Meaning) (v : ℕ) → meaning_of (named_inputs b) name ≡ Some m → fits m.width v ≡ true → P (Set m.at v))
      (sees : (name : List ℕ) (m : Meaning) (v : ℕ) → meaning_of (named_outputs b) name ≡ Some m → fits m.width v ≡ true → P (See m.at v name))
      (waits : (n : ℕ) → P (Wait n)) (resets : (n : ℕ) → P (Reset n)) where
    one : (line : ℕ) (word : List ℕ) (v : Option Verb) → IfOk (with_one b line word v) P
    one line word None = tt
    one line word (Some verb.Poke) = tt
    one line word (Some verb.Peek) = keeps_named line (meaning_of (named_words b) word) (λ m. Ok (Peek m.at word)) (λ m e. peeks word m e)
    one line word (Some verb.Expect) = tt
    one line word (Some verb.Set) = tt
    one line word (Some verb.See) = tt
    one line word (Some verb.Wait) = keeps_counted line Wait (numeral_value 10 word) waits
    one line word (Some verb.Reset) = keeps_counted line Reset (numeral_value 10 word) resets

    value : (line : ℕ) (name : List ℕ) (x : ℕ) (v : Option Verb) → IfOk (with_value b line name x v) P
    value line name x None = tt
    value line name x (Some verb.Poke) = keeps_named line (meaning_of (named_words b) name) (fitting line x (λ at. Poke at x)) (λ m e. keeps_fitting line x (λ at. Poke at x) m (pokes name m x e))
    value line name x (Some verb.Peek) = tt
    value line name x (Some verb.Expect) = keeps_named line (meaning_of (named_words b) name) (fitting line x (λ at. Expect at x name)) (λ m e. keeps_fitting line x (λ at. Expect at x name) m (expects name m x e))
    value line name x (Some verb.Set) = keeps_named line (meaning_of (named_inputs b) name) (fitting line x (λ at. Set at x)) (λ m e. keeps_fitting line x (λ at. Set at x) m (sets name m x e))
    value line name x (Some verb.See) = keeps_named line (meaning_of (named_outputs b) name) (fitting line x (λ at. See at x name)) (λ m e. keeps_fitting line x (λ at. See at x name) m (sees name m x e))
    value line name x (Some verb.Wait) = tt
    value line name x (Some verb.Reset) = tt

    two : (line : ℕ) (name : List ℕ) (x : Option ℕ) (v : Option Verb) → IfOk (with_two b line name x v) P
    two line name None v = tt
    two line name (Some x) v = value line name x v

    judged : (line : ℕ) (ws : List (List ℕ)) → IfOk (spelled b line ws) P
    judged line [] = tt
    judged line (w ∷ []) = tt
    judged line (w ∷ a ∷ []) = one line a (verb_of w)
    judged line (w ∷ a ∷ v ∷ []) = two line a (cell_value v) (verb_of w)
    judged line (w ∷ a ∷ v ∷ x ∷ more) = tt

    pub of_order : (line room : ℕ) (ws : List (List ℕ)) (o : Order) → order_of b line room ws ≡ Ok o → P o
    of_order line room ws o e = subst (λ j. IfOk j P) e (keeps_within line room (spelled b line ws) (judged line ws))
