-- What a reader of a dump has to know of the words before one, and what it judges of that one.
use Rattle.std.specs.List.{list_all, list_any, last_or, position}
use Rattle.std.specs.Str.{bytes_eq}
use Rattle.std.specs.Str.Parse.{digits_value}
use Rattle.std.specs.Prelude.{◌≡◌, ℕ, ◌+◌, ◌*◌, ◌^◌, Bool, true, false, ◌&&◌, nat_lt, nat_le, if◌then◌else◌, Option, Some, None, option_and_then, List, [], ◌∷◌, ◌++◌, length, take, drop, slice_get}
use Rattle.v_design.specs.Lexemes.{among}
use Rattle.vcd_syntax.specs.declared.kind.Kind.{Kind}
use Rattle.vcd_syntax.specs.declared.kind.Kind.TheVariants.{Width, Code, Name, Time, Scalar, Bits, Taker}
use Rattle.vcd_syntax.specs.Words.{decimal_value}
use Rattle.vcd_syntax.specs.Meaning.{Event, Comes, Gives, times}
use Rattle.vcd_syntax.specs.Faulty.{Problem, Repeated, Unknown, Unfit, Untimely, Excessive, is_known_bit, most_times, most_values}
use Rattle.vcd_syntax.specs.declared.state.State.{State}
use Rattle.vcd_syntax.specs.declared.state.State.TheVariants as state

-- codes, names, widths, what happened, and the last word
pub record Known : Type 0 where
  pub codes : List (List ℕ)
  pub names : List (List ℕ)
  pub widths : List ℕ
  pub events : List Event
  pub word : List ℕ

-- with one more word
abbrev pub more : Kind → List ℕ → Known → Known
more Width w k = record { codes = k.codes; names = k.names; widths = k.widths ++ decimal_value w ∷ []; events = k.events; word = w }
more Code w k = record { codes = k.codes ++ w ∷ []; names = k.names; widths = k.widths; events = k.events; word = w }
more Name w k = record { codes = k.codes; names = k.names ++ w ∷ []; widths = k.widths; events = k.events; word = w }
more Time w k = record { codes = k.codes; names = k.names; widths = k.widths; events = k.events ++ Comes (decimal_value (drop 1 w)) ∷ []; word = w }
more Scalar w k = record { codes = k.codes; names = k.names; widths = k.widths; events = k.events ++ Gives (drop 1 w) (digits_value 2 (take 1 w)) ∷ []; word = w }
more Taker w k = record { codes = k.codes; names = k.names; widths = k.widths; events = k.events ++ Gives w (digits_value 2 (drop 1 k.word)) ∷ []; word = w }
more _ w k = record { codes = k.codes; names = k.names; widths = k.widths; events = k.events; word = w }

-- the width of the variable of a code
abbrev pub width_in : Known → List ℕ → Option ℕ
width_in k code = option_and_then (λ i. slice_get k.widths i) (position (bytes_eq code) k.codes)

-- how a word is judged: fine, or at fault, where the fault is placed at the word or at the one before it
pub data Verdict : Type 0 where
  Fine : Verdict
  Here : Problem → Verdict
  Before : Problem → Verdict

abbrev pub is_above : Option ℕ → ℕ → Bool
is_above None time = true
is_above (Some s) time = nat_lt s time

abbrev pub judge_time : Known → ℕ → Verdict
judge_time k time =
    if is_above (last_or None (times k.events)) time && nat_lt time (2 ^ 64)
    then (if nat_lt (length (times k.events)) most_times && nat_le ((length (times k.events) + 1) * length k.codes) most_values then Fine else Here Excessive)
    else Here Untimely

-- of a variable that has a width
abbrev pub is_one_bit : Option ℕ → Bool
is_one_bit None = true
is_one_bit (Some width) = nat_le width 1

abbrev pub holds : Option ℕ → ℕ → Bool
holds None value = true
holds (Some width) value = nat_lt value (2 ^ width)

-- the verdict on a word of a kind
abbrev pub judge : Kind → List ℕ → Known → Verdict
judge Code w k = if among k.codes w then Here Repeated else Fine
judge Name w k = if among k.names w then Here Repeated else Fine
judge Time w k = judge_time k (decimal_value (drop 1 w))
judge Scalar w k = if among k.codes (drop 1 w) then (if list_all is_known_bit (take 1 w) && is_one_bit (width_in k (drop 1 w)) then Fine else Here Unfit) else Here Unknown
judge Bits w k = if list_all is_known_bit (drop 1 w) then Fine else Here Unfit
judge Taker w k = if among k.codes w then (if holds (width_in k w) (digits_value 2 (drop 1 k.word)) then Fine else Before Unfit) else Here Unknown
judge _ w k = Fine

-- no code stands behind itself again
abbrev pub AreApart : List (List ℕ) → Type 0
AreApart [] = Unit {0}
AreApart (c ∷ cs) = (list_any (bytes_eq c) cs ≡ false) × AreApart cs

-- what is given a value is one of these codes
abbrev pub AreGiven : List Event → List (List ℕ) → Type 0
AreGiven [] cs = Unit {0}
AreGiven (Comes t ∷ es) cs = AreGiven es cs
AreGiven (Gives c x ∷ es) cs = (among cs c ≡ true) × AreGiven es cs

-- how many widths stand without a code at a state, and how many codes without a name
abbrev pub open_widths : State → ℕ
open_widths state.Code = 1
open_widths _ = 0

abbrev pub open_codes : State → ℕ
open_codes state.Name = 1
open_codes _ = 0

-- at a state all that is known goes together
pub record IsOrderly (s : State) (k : Known) : Type 0 where
  pub widths : length k.widths ≡ length k.codes + open_widths s
  pub names : length k.codes ≡ length k.names + open_codes s
  pub apart : AreApart k.codes
  pub given : AreGiven k.events k.codes
