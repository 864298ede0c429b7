use Rattle.std.proofs.Common.{◌≡◌, ◌∙◌, ◌++◌, ◌∷◌, [], false, is_some, length, map, sym, ap, subst}
use Rattle.std.specs.List.{position}
use Rattle.std.specs.Str.{bytes_eq}
use Rattle.std.proofs.lemmas.List.{length-map, map-append}
use Rattle.std.proofs.lemmas.Map.Text.{btree_map_updates_str}
use Rattle.vcd_reader.specs.WordSets.{AreTheirPlaces}
use Rattle.vcd_reader.proofs.WordSets.{has_place, places_more}
use Rattle.vcd_reader.proofs.word_set.WordSet.add.Goals as goal

pub returns-then-is_some-clause-again : goal.returns-then-is_some-clause-again
returns-then-is_some-clause-again c = sym c.if-is_some.true ∙ (c.is_some.ensures ∙ (ap is_some c.find.ensures ∙ has_place c.args.self.now c.args.word.now))

pub returns-clause-again : goal.returns-clause-again
returns-clause-again c = sym c.if-is_some.false ∙ (c.is_some.ensures ∙ (ap is_some c.find.ensures ∙ has_place c.args.self.now c.args.word.now))

pub invariant_of-self-2 : goal.invariant_of-self-2
invariant_of-self-2 c =
    let word = c.args.word.now in
    let old = c.self.inside.words.items in
    let words = map (λ w. w.now) old in
    let fresh : is_some (position (bytes_eq word) words) ≡ false =
    ap (λ ws. is_some (position (bytes_eq word) ws)) c.self.view_is ∙ (sym (ap is_some c.find.ensures) ∙ (sym c.is_some.ensures ∙ c.if-is_some.false)) in
    let number : c.len-number.result ≡ length words = c.len-number.ensures ∙ c.self.inside.words.ok.0 ∙ sym (length-map old (λ w. w.now)) in
    let items = c.push_reserved.ensures.items ∙ ap (λ xs. xs ++ (c.args.word ∷ [])) c.reserve.ensures.items in
    let more : map (λ w. w.now) c.push_reserved.new.self.items ≡ words ++ (word ∷ []) = ap (map (λ w. w.now)) items ∙ map-append (λ w. w.now) old (c.args.word ∷ []) in
    subst (AreTheirPlaces c.insert.new.self) (sym more)
    (places_more c.self.inside.places c.insert.new.self words word c.len-number.result c.self.invariant fresh number (btree_map_updates_str word c.self.inside.places c.insert.new.self _ c.in_ok-insert.ensures.updates))
