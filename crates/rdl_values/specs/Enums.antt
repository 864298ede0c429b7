-- The enumerations of a body, and what its expressions may name (SystemRDL 2.0, clause 6).
use Rattle.std.specs.Prelude.{ℕ, ◌+◌, ◌^◌, cond, List, [], ◌∷◌, ◌++◌, nat_lt, map, Option, None, Some, Ok, Err}
use Rattle.rdl_base.specs.declared.fault.Fault.{Fault}
use Rattle.rdl_base.specs.declared.rule.Rule.TheVariants as rules
use Rattle.rdl_tree.specs.declared.expr.Expr.{Expr}
use Rattle.rdl_tree.specs.declared.expr.Name.{Name}
use Rattle.rdl_tree.specs.declared.item.Entry.{Entry}
use Rattle.rdl_tree.specs.declared.item.Item.{Item}
use Rattle.rdl_values.specs.Bodies.{Body, around}
use Rattle.rdl_values.specs.Values.{Val, Names, Around, EnumOf, Outcome, fails, number_of}
use Rattle.rdl_values.specs.Views as view
use Rattle.rdl_values.specs.Views.{ItemIs, item_is}

-- The entries of an enumeration with their values, up to the first whose value fails. Those from there on do not exist.
pub record Judged : Type 0 where
  pub entries : List (Name × ℕ)
  pub failure : Option Fault

-- a value that is not written: one more than that before, or 0 at the first
abbrev pub counted : Name → Option ℕ → Outcome ℕ
counted n None = Ok 0
counted n (Some k) = cond (nat_lt (k + 1) (2 ^ 64)) (Ok (k + 1)) (fails rules.V3 n.place)

abbrev pub entry_number : Around → Option ℕ → Entry → Outcome ℕ
entry_number env before e = go e.value
  where
    go : Option Expr → Outcome ℕ
    go None = counted e.name before
    go (Some x) = number_of env x

abbrev pub judged_from : Around → Option ℕ → List Entry → Judged
judged_from env before [] = record { entries = []; failure = None }
judged_from env before (e ∷ es) = go (entry_number env before e) (λ k. judged_from env (Some k) es)
  where
    go : Outcome ℕ → (ℕ → Judged) → Judged
    go (Ok k) rest = record { entries = (e.name, k) ∷ (rest k).entries; failure = (rest k).failure }
    go (Err f) rest = record { entries = []; failure = Some f }

abbrev pub judged : Around → List Entry → Judged
judged env es = judged_from env None es

abbrev pub enum_of : Around → Name → List Entry → EnumOf
enum_of env n es = record { name = n.text.now; place = n.place.0; entries = map (λ e. (e.0.text.now, e.1)) (judged env es).entries }

-- what an item adds to the names of its body
abbrev pub with_item : Around → Names → ItemIs → Names
with_item outer names (view.enumeration n es) = record names { enums = names.enums ++ (enum_of (names ∷ outer) n es ∷ []) }
with_item outer names _ = names

abbrev pub with_items : Around → Names → List Item → Names
with_items outer names [] = names
with_items outer names (i ∷ is) = with_items outer (with_item outer names (item_is i)) is

-- the names of a body: the values of its definition's parameters, and its enumerations
abbrev pub names_of : Around → List (List ℕ × Val) → List Item → Names
names_of outer bound items = with_items outer (record { bound = bound; enums = [] }) items

-- what the values of an enumeration may name: the parameters, and the enumerations before it
abbrev pub around_enum : Body → List Item → Around
around_enum b before = names_of (around b.outer) b.names.bound before ∷ around b.outer
