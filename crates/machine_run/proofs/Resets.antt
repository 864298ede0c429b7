-- What an edge makes of a field whose reset is asserted.
use Rattle.std.proofs.Common.{◌≡◌, ℕ, Bool, true, false, if◌then◌else◌, Some, unwrap_or, List, slice_get, refl, ap, ◌∙◌}
use Rattle.std.specs.Option.{option_map_or}
use Rattle.rb_model.specs.declared.block.Block.{Block}
use Rattle.rb_model.specs.declared.block.Field.{Field}
use Rattle.rb_model.specs.Kept.{Kept, Val, Last, Done, Map, of_field, is_kept, is_storage}
use Rattle.rb_model.specs.Items.{Now}
use Rattle.rb_model.specs.Machine.{is_asserted, moved}
use Rattle.rb_model.specs.Run.{ClockEdge, kept_next, now, pins_of}

-- what is said of the field of a number is said of the field
pub at_field : {X : Type 0} (b : Block) (k : ℕ) (f : Field) (here : slice_get b.fields k ≡ Some f) (other : X) (g : Field → X) → of_field b k other g ≡ g f
at_field b k f here other g = ap (λ o. option_map_or g o other) here

none_kept : (c : Bool) (y : ℕ) → y ≡ 0 → (if c then y else 0) ≡ 0
none_kept true y e = e
none_kept false y e = refl

module _ (b : Block) (m : Map) (x outs : List ℕ) (after : Map) (edge : ClockEdge b m x outs after) where
  abbrev pub n : Now
  n = now b (pins_of b x) m

  pub is_after : (j : Kept) → after j ≡ (if is_kept b j then kept_next b n edge.items j else 0)
  is_after j = ap (λ l. l j) edge.moved

  module _ (k : ℕ) (f : Field) (here : slice_get b.fields k ≡ Some f) where
    pub stored : is_storage f.class ≡ true → after (Val k) ≡ kept_next b n edge.items (Val k)
    stored e = is_after (Val k) ∙ ap (λ c. if c then kept_next b n edge.items (Val k) else 0) (at_field b k f here false (λ g. is_storage g.class) ∙ e)

    module _ (asserted : is_asserted b (pins_of b x) f.reset_by ≡ true) where
      value_after : kept_next b n edge.items (Val k) ≡ unwrap_or f.reset (moved b n edge.items (Val k))
      value_after =
          let y = moved b n edge.items (Val k) in
          at_field b k f here y (λ g. if is_asserted b n.pins g.reset_by then unwrap_or g.reset y else y) ∙ ap (λ c. if c then unwrap_or f.reset y else y) asserted

      input_after : kept_next b n edge.items (Last k) ≡ 0
      input_after =
          let y = moved b n edge.items (Last k) in
          at_field b k f here y (λ g. if is_asserted b n.pins g.reset_by then 0 else y) ∙ ap (λ c. if c then 0 else y) asserted

      mark_after : kept_next b n edge.items (Done k) ≡ 0
      mark_after =
          let y = moved b n edge.items (Done k) in
          at_field b k f here y (λ g. if is_asserted b n.pins g.reset_by then 0 else y) ∙ ap (λ c. if c then 0 else y) asserted

      pub reset_value : is_storage f.class ≡ true → (r : ℕ) → f.reset ≡ Some r → after (Val k) ≡ r
      reset_value e r q = stored e ∙ (value_after ∙ ap (λ o. unwrap_or o (moved b n edge.items (Val k))) q)

      pub reset_input : after (Last k) ≡ 0
      reset_input = is_after (Last k) ∙ none_kept (is_kept b (Last k)) (kept_next b n edge.items (Last k)) input_after

      pub reset_mark : after (Done k) ≡ 0
      reset_mark = is_after (Done k) ∙ none_kept (is_kept b (Done k)) (kept_next b n edge.items (Done k)) mark_after
