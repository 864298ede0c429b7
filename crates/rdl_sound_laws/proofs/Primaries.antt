-- The primaries of aliases.
use Rattle.std.proofs.Common.{◌≡◌, ◌∙◌, ℕ, zero, suc, ◌<◌, true, false, List, [], ◌∷◌, filter, length, slice_get, Option, None, Some, refl, sym, subst, arith}
use Rattle.rdl_tree.specs.declared.item.Kind.TheVariants as kind
use Rattle.rdl_tree.specs.declared.node.Elab.{Elab}
use Rattle.rdl_tree.specs.declared.node.Node.{out-Node}
use Rattle.rdl_values.specs.Elaborated.{nodes_of}
use Rattle.rdl_values.specs.Elaboration.{IsClean}
use Rattle.rdl_values.specs.Instances.{Instance}
use Rattle.rdl_layers.specs.Fields.{is_a, is_alias, is_alias_of}
use Rattle.rdl_nodes.specs.declared.table.Row.{Row}
use Rattle.rdl_nodes.specs.Rows.{AreRows}
use Rattle.rdl_nodes.proofs.Members.{in-from, in-place}
use Rattle.rdl_sizes.proofs.Facts.{node-at, nodes-many, row-at, rows-many}
use Rattle.rdl_rules.specs.Numbers.{registers}
use Rattle.rdl_fields.specs.Primary.{TellsPrimary}
use Rattle.rdl_fields.proofs.Lists.{filter-in}
use Rattle.rdl_fields.proofs.Primaries.{Stand, told-by}
use Rattle.rdl_sound_laws.specs.Fielded.{HavePrimaries}

first-of : (xs : List Row) (k : ℕ) → k < length xs → (x : Row) × (slice_get xs k ≡ Some x)
first-of [] k l = absurd (omega (arith, l))
first-of (y ∷ ys) zero l = (y, refl)
first-of (y ∷ ys) (suc k) l = first-of ys k (omega (arith, l))

pub have-primaries : (e : Elab) (rows : List Row) → IsClean e → Stand → AreRows e rows → HavePrimaries (nodes_of e)
have-primaries e rows clean stand are = λ a i alias.
    let at = in-place (nodes_of e) a (filter-in (is_a kind.Reg) (nodes_of e) a (in-from (registers (nodes_of e)) a i)) in
    let within = at.1 in
    let many = nodes-many e in
    let long = rows-many e rows are in
    let x = first-of rows at.0 (omega (arith, within, many, long)) in
    let r = row-at e rows are at.0 x.0 x.1 in
    let same : r.0.node ≡ a = (let q : Some r.0.node ≡ Some a = sym (node-at e at.0 r.0 r.1) ∙ at.2 in cc q) in
    by a alias (out-Node x.0.node.now).alias (subst (λ (n : Instance). TellsPrimary e n (out-Node x.0.node.now).alias) same (told-by e clean stand at.0 x.0 r.0 r.1 r.2))
  where
    by : (a : Instance) → is_alias a ≡ true → (o : Option ℕ) → TellsPrimary e a o → (r : Instance) × (filter (λ p. is_alias_of p a) (registers (nodes_of e)) ≡ r ∷ []) × (is_alias r ≡ false)
    by a alias None none = absurd (let two : true ≡ false = sym alias ∙ none in cc two)
    by a alias (Some k) (yes_, r, h) = (r, h.only, h.no_alias)
