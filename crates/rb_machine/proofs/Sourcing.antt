-- Where the values of items come from.
use Rattle.std.proofs.Common.{◌≡◌, ℕ, ◌+◌, ◌<◌, Some, List, [], ◌∷◌, ◌++◌, codes, length, slice_get, get_or, slice_index, sym, ap, subst, ◌∙◌, arith, inl, inr, ◌⊎◌}
use Rattle.std.specs.Option.{option_map_or}
use Rattle.std.proofs.lemmas.List.{length-append}
use Rattle.std.proofs.lemmas.Option.{same_Some, slice_get-get_or, slice_get_within}
use Rattle.plain_lemmas.proofs.Lists.{get-front_of as front, get-last as last}
use Rattle.plain_lemmas.proofs.Numbers.{below_next-same_or as same_or_below}
use Rattle.rb_model.specs.declared.kinds.RefItem.{RefItem}
use Rattle.rb_model.specs.declared.block.Block.{Block}
use Rattle.rb_model.specs.Items.{Access, ItemValues, class_value, fed, made}
use Rattle.rb_machine.specs.declared.scene.EdgeState.{EdgeState}
use Rattle.rb_machine.specs.declared.sources.Source.{Source}
use Rattle.rb_machine.specs.Scene.{IsEdgeState, map_of, now_in}
use Rattle.rb_machine.specs.Sources.{AreSources, IsHeld, IsPinned, IsSourceOf}
use Rattle.rb_model.specs.Kept.{Val}
use Rattle.rb_machine.proofs.Briefs.{value_kept}
use Rattle.rb_machine.proofs.Placing.{place_at}

-- one source more
pub sources_more : (b : Block) (order : List RefItem) (ss ss' : List Source) (n : ℕ) (d : RefItem) (s : Source) → n < length order → length ss ≡ n → ss' ≡ ss ++ s ∷ [] → IsSourceOf b (get_or order n d) s → AreSources b order ss → AreSources b order ss'
sources_more b order ss ss' n d s low sized pushed is before k i t here there = by (same_or_below k n (omega (arith, within, long)))
  where
    within : k < length ss'
    within = slice_get_within ss' k t there

    long : length ss' ≡ n + 1
    long = ap length pushed ∙ (length-append ss (s ∷ []) ∙ ap (λ m. m + 1) sized)

    by : (k ≡ n) ⊎ (k < n) → IsSourceOf b i t
    by (inl e) =
        let one : slice_get (ss ++ s ∷ []) k ≡ Some s = subst (λ m. slice_get (ss ++ s ∷ []) m ≡ Some s) (sized ∙ sym e) (last ss s) in
        let same : s ≡ t = same_Some s t (sym one ∙ (ap (λ xs. slice_get xs k) (sym pushed) ∙ there)) in
        let at : get_or order n d ≡ i = same_Some (get_or order n d) i (sym (slice_get-get_or order n d low) ∙ (ap (slice_get order) (sym e) ∙ here)) in
        subst (IsSourceOf b i) same (subst (λ j. IsSourceOf b j s) at is)
    by (inr l) =
        let at : slice_get ss k ≡ Some (get_or ss k s) = slice_get-get_or ss k s (omega (arith, l, sized)) in
        let same : get_or ss k s ≡ t = same_Some (get_or ss k s) t (sym (front ss (s ∷ []) (get_or ss k s) k at) ∙ (ap (λ xs. slice_get xs k) (sym pushed) ∙ there)) in
        subst (IsSourceOf b i) same (before k i (get_or ss k s) here at)

pub no_sources : (b : Block) (order : List RefItem) (ss : List Source) → ss ≡ [] → AreSources b order ss
no_sources b order ss none k i s here there = absurd (omega (arith, slice_get_within ss k s there, ap length none))

pub sources_of : (b : Block) (order order' : List RefItem) (ss ss' : List Source) → order' ≡ order → ss' ≡ ss → AreSources b order ss → AreSources b order' ss'
sources_of b order order' ss ss' e g h = λ k i s here there. h k i s (ap (λ xs. slice_get xs k) (sym e) ∙ here) (ap (λ xs. slice_get xs k) (sym g) ∙ there)

-- the value that is held, and the number of the pin
pub held_is : (s : EdgeState) (a : Access) (v : ItemValues) (i : RefItem) (k : ℕ) → IsHeld s.block.now i k → map_of s.held.now (Val k) ≡ made s.block.now (now_in s a) v i
held_is s a v i k h = value_kept s.block.now (now_in s a) v k h.stores ∙ sym (ap (made s.block.now (now_in s a) v) h.is)

pub pinned_is : (s : EdgeState) → IsEdgeState s → (a : Access) (v : ItemValues) (i : RefItem) (place : ℕ) → IsPinned s.block.now i place → slice_index s.pins.now place ≡ made s.block.now (now_in s a) v i
pinned_is s scene a v i place h =
    let b = s.block.now in
    let n = now_in s a in
    let name : List ℕ = codes "in$" ++ h.field.path in
    sym (ap (made b n v) h.is ∙ (ap (λ o. option_map_or (λ f. class_value n v f.class h.number f) o 0) h.here
    ∙ (ap (λ c. class_value n v c h.number h.field) h.class ∙ (ap (λ x. fed n v x name) h.fed
    ∙ place_at b scene.sound name place h.placed s.pins.now scene.pins))))
