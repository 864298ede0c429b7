use Rattle.std.proofs.Common.{◌≡◌, ℕ, ◌∙◌, sym, ap, if◌then◌else◌, List, Option, Some, is_some}
use Rattle.rb_edge.specs.declared.mem_shelf.File.{File}
use Rattle.rb_edge.specs.Lookup.{lookup}
use Rattle.rb_edge.proofs.Lookup.{lookup-push_same, lookup-push_other}
use Rattle.rb_edge.proofs.mem_shelf.MemShelf.put.Goals as goal

held_count : (found : Option (List ℕ)) (bytes : List ℕ) (chosen failed : ℕ) → found ≡ Some bytes → (if is_some found then chosen else failed) ≡ chosen
held_count found bytes chosen failed held = rw held

pub returns-clause-added : goal.returns-clause-added
returns-clause-added c = record {
  held = ap (λ (files : List File). lookup files c.args.name.now) c.in_ok-push.ensures.items
      ∙ lookup-push_same _ _ _ c.requires c.in_ok-name.ensures.ok
      ∙ ap Some (c.in_ok-bytes.ensures.items_if_clones_equal (λ x y e. e));
  others = λ any other. ap (λ (files : List File). lookup files any) c.in_ok-push.ensures.items
      ∙ lookup-push_other _ _ any (λ same. other (sym same ∙ c.in_ok-name.ensures.ok));
}

pub returns-clause-faults : goal.returns-clause-faults
returns-clause-faults c = held_count (lookup c.push.new.self.items c.args.name.now) c.args.bytes.now c.args.self.now.chosen c.args.self.now.failed (returns-clause-added c).held

pub returns-clause-other_faults : goal.returns-clause-other_faults
returns-clause-other_faults c = λ any other.
    ap (λ found. if is_some found then c.args.self.now.chosen else c.args.self.now.failed) ((returns-clause-added c).others any other)
