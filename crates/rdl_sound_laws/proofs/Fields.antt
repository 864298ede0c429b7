-- The view of a field of a register that is no alias.
use Rattle.std.proofs.Common.{◌≡◌, ◌∙◌, ℕ, false, not, List, [], ◌∷◌, slice_get, Contains, Option, refl, ap}
use Rattle.rdl_tree.specs.declared.item.Source.{Source}
use Rattle.rdl_values.specs.Instances.{Instance, nodes}
use Rattle.rdl_values.specs.Lineages.{lineages}
use Rattle.rdl_nodes.proofs.Lineages.{all_nodes}
use Rattle.rdl_nodes.proofs.Members.{in-flat, in-from, in-to}
use Rattle.rdl_layers.specs.Fields.{fields_of, is_alias}
use Rattle.rb_model.specs.declared.block.Block.{Block}
use Rattle.rdl_rules.specs.Block.{IsBlockOf}
use Rattle.rdl_rules.specs.Fields.{field_of, first_number, view_of, viewed}
use Rattle.rdl_rules.specs.Numbers.{all_fields, number_of, primaries, registers}
use Rattle.rdl_fields.proofs.Lists.{in-filter}
use Rattle.rdl_sound_laws.proofs.Found.{field-at}
use Rattle.rdl_sound_laws.specs.Fielded.{IsViewed}

pub itself : (ns : List Instance) (r f : Instance) → is_alias r ≡ false → viewed ns r f ≡ f ∷ []
itself ns r f own = rw own refl

pub own-field : (wanted : Option (List ℕ)) (s : Source) (waits : ℕ) (b : Block) (r f : Instance) → IsBlockOf wanted s waits b → Contains (registers (nodes wanted s)) r → is_alias r ≡ false → Contains (fields_of r) f → IsViewed (lineages wanted s) b r f
own-field wanted s waits b r f block reg own field =
    let ns = nodes wanted s in
    let primary = in-filter (λ x. not (is_alias x)) (registers ns) r (in-from (registers ns) r reg) (ap not own) in
    let among = in-to (all_fields ns) f (in-flat fields_of (primaries ns) r f primary (in-from (fields_of r) f field)) in
    let at = field-at wanted s f among in
    let number : (view_of (lineages wanted s) r f).field ≡ number_of f (all_fields ns) = (λ i. first_number (viewed (all_nodes wanted s i) r f) (all_fields (all_nodes wanted s i))) ∙ ap (λ xs. first_number xs (all_fields ns)) (itself ns r f own) in
    record {
      has = record {
        field = field_of s (lineages wanted s) at.0 f;
        of = ap (λ k. slice_get b.fields k) number ∙ (ap (λ xs. slice_get xs (number_of f (all_fields ns))) block.fields_ ∙ at.1);
        wide = refl;
      };
      path_ = refl;
    }
