-- What the values and environments of the code mean.
use Rattle.std.specs.Prelude.{ℕ, List, [], ◌∷◌, map, Result, Ok, Err}
use Rattle.rdl_tree.specs.declared.value.Value.{Value}
use Rattle.rdl_tree.specs.declared.value.Value.TheVariants as value
use Rattle.rdl_tree.specs.declared.value.Bound.{Bound}
use Rattle.rdl_tree.specs.declared.value.EntryValue.{EntryValue}
use Rattle.rdl_tree.specs.declared.value.EnumValues.{EnumValues}
use Rattle.rdl_tree.specs.declared.value.Env.{Env, Env', Held-Env-outer, None', Some'}
use Rattle.rdl_base.specs.declared.fault.Fault.{Fault}
use Rattle.rdl_values.specs.Values.{Val, number, flag, text, Outcome, EnumOf, Names, Around}

-- a value of the code
abbrev pub val_of : Value → Val
val_of (value.Number n) = number n
val_of (value.Flag b) = flag b
val_of (value.Str s) = text s.now

-- the value or the failure that a call answers
abbrev pub outcome_of : Result Value Fault → Outcome Val
outcome_of (Ok v) = Ok (val_of v)
outcome_of (Err f) = Err f

-- an entry and its number
abbrev pub entry_of : EntryValue → List ℕ × ℕ
entry_of e = (e.name.text.now, e.value)

-- an enumeration that is listed
abbrev pub listed_enum : EnumValues → EnumOf
listed_enum e = record { name = e.name.text.now; place = e.name.place.0; entries = map entry_of e.entries.now }

-- a parameter and its value
abbrev pub bound_of : Bound → List ℕ × Val
bound_of b = (b.name.text.now, val_of b.value)

-- what a body has, from its parameters and its enumerations
abbrev pub names_in : List Bound → List EnumValues → Names
names_in bs es = record { bound = map bound_of bs; enums = map listed_enum es }

-- an environment's bodies, the nearest first
abbrev mutual
  pub around_of : Env → Around
  around_of (Env' bs es outer) = names_in bs.now es.now ∷ around_behind outer

  pub around_behind : Held-Env-outer → Around
  around_behind None' = []
  around_behind (Some' p e) = around_of e
