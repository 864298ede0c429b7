use Rattle.std.proofs.Common.{◌≡◌, ◌∙◌, ◌∷◌, ◌++◌, [], arith, ap, length, map, sym, subst}
use Rattle.std.proofs.lemmas.List.{length-map, map-append}
use Rattle.rdl_tree.specs.declared.value.Bound.{Bound as BoundOf}
use Rattle.rdl_values.specs.Firsts.{AreFirsts}
use Rattle.rdl_values.specs.Seen.{bound_of, val_of}
use Rattle.rdl_values.proofs.Named.{firsts_more}
use Rattle.rdl_values.proofs.parameters.Parameters.put.Goals as goal

pub returns : goal.returns
returns c = λ xs k t h.
    let old = c.args.self.now in
    let n = c.args.name.text.now in
    let one : BoundOf = record { name = c.args.name; value = c.args.value } in
    let here : c.len-at.result ≡ length old.touched.items = omega (arith, c.len-at.ensures, old.touched.ok.0) in
    let size : c.len-at.result ≡ length (map (λ b. b.0) t) = here ∙ sym (length-map old.touched.items bound_of) ∙ ap length h.touched_are ∙ sym (length-map t (λ b. b.0)) in
    record {
      defaults = h.defaults;
      upto_is = h.upto_is;
      places = subst (AreFirsts c.put.new.self) (sym (map-append (λ b. b.0) t ((n, val_of c.args.value) ∷ []))) (firsts_more old.places c.put.new.self (map (λ b. b.0) t) n c.len-at.result h.places size c.in_ok-put.ensures.put);
      touched_are = ap (map bound_of) c.in_ok-push.ensures.items ∙ map-append bound_of old.touched.items (one ∷ []) ∙ (λ j. h.touched_are j ++ (bound_of one ∷ []));
      apart = h.apart;
    }
