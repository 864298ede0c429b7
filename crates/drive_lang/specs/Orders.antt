-- What a line of a script asks for, by its words, or why it is none (this project's format).
use Rattle.std.specs.Prelude.{ℕ, nat_lt, if◌then◌else◌, Option, None, Some, Result, Ok, Err, List, [], ◌∷◌}
use Rattle.rb_model.specs.declared.block.Block.{Block}
use Rattle.stim_csv.specs.Numeral.{cell_value, fits, numeral_value}
use Rattle.drive_names.specs.Named.{meaning_of, named_inputs, named_outputs, named_words}
use Rattle.drive_names.specs.declared.table.Meaning.{Meaning}
use Rattle.drive_lang.specs.declared.order.Order.{Order}
use Rattle.drive_lang.specs.declared.order.Order.TheVariants.{Poke, Peek, Expect, Set, See, Wait, Reset}
use Rattle.drive_lang.specs.Steps.{vectors_of}
use Rattle.drive_lang.specs.declared.error.DriveError.{DriveError}
use Rattle.drive_lang.specs.declared.error.DriveError.TheVariants.{Form, Unknown, TooWide, Many}
use Rattle.drive_lang.specs.declared.verb.Verb.{Verb}
use Rattle.drive_lang.specs.declared.verb.Verb.TheVariants as verb
use Rattle.drive_lang.specs.Verbs.{verb_of}

-- an order, or why there is none
abbrev pub Judged : Type 0
Judged = Result Order DriveError

-- the order of what a name means
abbrev pub named : (line : ℕ) → Option Meaning → (Meaning → Judged) → Judged
named line None order = Err (Unknown line)
named line (Some m) order = order m

-- the order of a value that fits what a name means
abbrev pub fitting : (line value : ℕ) (order : ℕ → Order) → Meaning → Judged
fitting line value order m = if fits m.width value then Ok (order m.at) else Err (TooWide line)

-- the order of a number of vectors
abbrev pub counted : (line : ℕ) (order : ℕ → Order) → Option ℕ → Judged
counted line order None = Err (Form line)
counted line order (Some n) = Ok (order n)

-- the order of a verb with one word behind it
abbrev pub with_one : Block → (line : ℕ) (word : List ℕ) → Option Verb → Judged
with_one b line word (Some verb.Peek) = named line (meaning_of (named_words b) word) (λ m. Ok (Peek m.at word))
with_one b line word (Some verb.Wait) = counted line Wait (numeral_value 10 word)
with_one b line word (Some verb.Reset) = counted line Reset (numeral_value 10 word)
with_one b line word _ = Err (Form line)

-- the order of a verb with a name and a value
abbrev pub with_value : Block → (line : ℕ) (name : List ℕ) (value : ℕ) → Option Verb → Judged
with_value b line name v (Some verb.Poke) = named line (meaning_of (named_words b) name) (fitting line v (λ at. Poke at v))
with_value b line name v (Some verb.Expect) = named line (meaning_of (named_words b) name) (fitting line v (λ at. Expect at v name))
with_value b line name v (Some verb.Set) = named line (meaning_of (named_inputs b) name) (fitting line v (λ at. Set at v))
with_value b line name v (Some verb.See) = named line (meaning_of (named_outputs b) name) (fitting line v (λ at. See at v name))
with_value b line name v _ = Err (Form line)

abbrev pub with_two : Block → (line : ℕ) (name : List ℕ) → Option ℕ → Option Verb → Judged
with_two b line name None verb = Err (Form line)
with_two b line name (Some v) verb = with_value b line name v verb

-- the order of a line's words
abbrev pub spelled : Block → (line : ℕ) → List (List ℕ) → Judged
spelled b line (word ∷ one ∷ []) = with_one b line one (verb_of word)
spelled b line (word ∷ name ∷ value ∷ []) = with_two b line name (cell_value value) (verb_of word)
spelled b line _ = Err (Form line)

-- where there is room for so many vectors
abbrev pub within : (line room : ℕ) → Judged → Judged
within line room (Ok order) = if nat_lt room (vectors_of order) then Err (Many line) else Ok order
within line room (Err e) = Err e

abbrev pub order_of : Block → (line room : ℕ) → List (List ℕ) → Judged
order_of b line room words = within line room (spelled b line words)
