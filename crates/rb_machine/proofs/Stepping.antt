-- What an edge of a block makes, from what was computed.
use Rattle.std.proofs.Common.{◌≡◌, ℕ, ◌<◌, ◌≤◌, Bool, true, false, ◌&&◌, if◌then◌else◌, Option, Some, None, unwrap_or, List, [], ◌∷◌, length, map, slice_get, refl, sym, ap, ◌∙◌, subst, arith, inl, inr, ◌⊎◌}
use Rattle.std.specs.Prelude.{Contains}
use Rattle.std.specs.Option.{option_map_or}
use Rattle.v_design.specs.Expr.{bit_of}
use Rattle.rb_model.specs.declared.kinds.RefItem.{RefItem}
use Rattle.rb_model.specs.declared.block.Block.{Block}
use Rattle.rb_model.specs.declared.block.Field.{Field}
use Rattle.rb_model.specs.Kept.{Kept, Val, Last, Done, Waited, Data, Error, Map, has_wait, is_storage, keeps_last, only_kept}
use Rattle.rb_model.specs.Ports.{Outlet, outlets}
use Rattle.rb_model.specs.Protocol.{bus_of}
use Rattle.rb_model.specs.Items.{Access, NoAccess, Now, ItemValues, AreItemValues, source_value}
use Rattle.rb_model.specs.Machine.{changed, hardware, held, is_asserted, read_data, software, uses_up}
use Rattle.rb_model.specs.Run.{ClockEdge, all_outputs, answer, bus_held, carried, carries, closes, error, kept_next, now, pins_of}
use Rattle.rb_model.specs.Sound.{IsSound}
use Rattle.rb_model.proofs.OwnViews.{none_within}
use Rattle.rb_machine.specs.declared.sight.FieldState.{FieldState}
use Rattle.rb_machine.specs.declared.scene.Held.{Held}
use Rattle.rb_machine.specs.declared.bus.BusOuts.{BusOuts}
use Rattle.rb_machine.specs.declared.bus.Transfer.{Transfer}
use Rattle.rb_machine.specs.Machines.{at_edge}
use Rattle.rb_machine.specs.Moves.{next_state, started_state}
use Rattle.rb_machine.specs.Scene.{map_of, no_state, state_at}
use Rattle.rb_machine.specs.Slots.{access_state}
use Rattle.rb_machine.specs.Table.{values_of}
use Rattle.rb_machine.specs.Transfers.{IsTransfer, access_seen, outs_shown}
use Rattle.block_plan.specs.Wanted.{AreInOrder, IsAllWanted}
use Rattle.rb_model.proofs.ItemValues.{are_values, item_value}
use Rattle.rb_machine.proofs.Agreeing.{are_alike, moved_same, read_same, shown_same}
use Rattle.rb_machine.proofs.Accessing.{software_done, software_last, software_value}
use Rattle.rb_machine.proofs.Holding.{none_past}

-- what an edge finds
pub now_is : (b : Block) (x : List ℕ) (m : Map) (h : Held) (t : Transfer) → ((k : Kept) → map_of h k ≡ bus_held b (bus_of (pins_of b x)) (held b (pins_of b x) m) k) → IsTransfer b (bus_of (pins_of b x)) (map_of h) t
    → at_edge b x h (access_seen t.access) ≡ now b (pins_of b x) m
now_is b x m h t same tr =
    let p = pins_of b x in
    let e : map_of h ≡ bus_held b (bus_of p) (held b p m) = λ d k. same k d in
    let found : Map → Now = λ l. record { access = if carries b (bus_of p) l then carried b (bus_of p) else NoAccess; pins = p; kept = l } in
    ap (λ a. at_edge b x h a) tr.access ∙ ap found e

map-map : (v : ItemValues) (os : List Outlet) → map v (map (λ o. o.item) os) ≡ map (λ o. v o.item) os
map-map v [] = refl
map-map v (o ∷ os) = ap (λ xs. v o.item ∷ xs) (map-map v os)

value_ordered : (c : Bool) (h s : ℕ → ℕ) (x : ℕ) → (if c then h (s (if c then x else h x)) else s (if c then x else h x)) ≡ (if c then h (s x) else s (h x))
value_ordered true h s x = refl
value_ordered false h s x = refl

bit_kept : (w c : Bool) → bit_of (w && c) ≡ (if w then bit_of c else 0)
bit_kept true c = refl
bit_kept false c = refl

listed : (a b c a' b' c' : ℕ) (xs ys : List ℕ) → a ≡ a' → b ≡ b' → c ≡ c' → xs ≡ ys → a ∷ b ∷ c ∷ xs ≡ a' ∷ b' ∷ c' ∷ ys
listed a b c a' b' c' xs ys p q r s = cc

module _ (b : Block) (x : List ℕ) (h : Held) (t : Transfer) (v : ItemValues) (tr : IsTransfer b (bus_of (pins_of b x)) (map_of h) t) where
  abbrev access : Access
  access = access_seen t.access

  abbrev n : Now
  n = at_edge b x h access

  -- what is shown
  pub shown_is : (given : ℕ) (bus : BusOuts) (items : List RefItem) (outs : List ℕ) → given ≡ read_data b v access → bus ≡ outs_shown b t h given → items ≡ map (λ o. o.item) (outlets b)
      → outs ≡ bus.ready ∷ bus.«data» ∷ bus.error ∷ map v items → outs ≡ all_outputs b n v
  shown_is given bus items outs g s i o =
      let c : t.closes ≡ closes b (bus_of n.pins) n.kept = tr.closes in
      let r : bus.ready ≡ (if has_wait b then bit_of (closes b (bus_of n.pins) n.kept) else 1) = ap (λ q. q.ready) s ∙ ap (λ z. if has_wait b then bit_of z else 1) c in
      let d : bus.«data» ≡ (if has_wait b then (if closes b (bus_of n.pins) n.kept then h.«data» else 0) else answer b n v)
      = ap (λ q. q.«data») s ∙ (ap (λ z. if has_wait b then (if z then h.«data» else 0) else given) c ∙ ap (λ z. if has_wait b then (if closes b (bus_of n.pins) n.kept then h.«data» else 0) else z) g) in
      let e : bus.error ≡ (if has_wait b then (if closes b (bus_of n.pins) n.kept then bit_of h.error else 0) else error b n)
      = ap (λ q. q.error) s ∙ (ap (λ z. if has_wait b then (if z then bit_of h.error else 0) else bit_of (t.carries && t.unmapped)) c
      ∙ (ap (λ z. if has_wait b then (if closes b (bus_of n.pins) n.kept then bit_of h.error else 0) else bit_of (z && t.unmapped)) tr.carries
      ∙ ap (λ z. if has_wait b then (if closes b (bus_of n.pins) n.kept then bit_of h.error else 0) else bit_of (carries b (bus_of n.pins) n.kept && z)) tr.unmapped)) in
      let m : map v items ≡ map (λ o. v o.item) (outlets b) = ap (map v) i ∙ map-map v (outlets b) in
      o ∙ listed bus.ready bus.«data» bus.error _ _ _ (map v items) _ r d e m

  module _ (states : List FieldState) (sized : length states ≡ length b.fields)
      (moved : (k : ℕ) (f : Field) → slice_get b.fields k ≡ Some f → state_at states k ≡ next_state b n v k f (access_state b n v access k (started_state n v k f (state_at h.fields.items k)))) where
    past_none : (k : ℕ) → slice_get b.fields k ≡ None → state_at states k ≡ no_state
    past_none k here = by (below_or_past k (length b.fields))
      where
        below_or_past : (k n : ℕ) → (k < n) ⊎ (n ≤ k)
        below_or_past k n = grind arith

        by : (k < length b.fields) ⊎ (length b.fields ≤ k) → state_at states k ≡ no_state
        by (inl l) = absurd (none_within b.fields k l here)
        by (inr l) = none_past states k (omega (arith, l, sized))

    value_next : (k : ℕ) → (state_at states k).value ≡ only_kept b (kept_next b n v) (Val k)
    value_next k = by (slice_get b.fields k) refl
      where
        by : (o : Option Field) → slice_get b.fields k ≡ o
            → (state_at states k).value ≡ (if option_map_or (λ f. is_storage f.class) o false then option_map_or (λ f. if is_asserted b n.pins f.reset_by then unwrap_or f.reset (option_map_or (λ f. changed b n v k f (n.kept (Val k))) o 0) else option_map_or (λ f. changed b n v k f (n.kept (Val k))) o 0) o (option_map_or (λ f. changed b n v k f (n.kept (Val k))) o 0) else 0)
        by None here = ap (λ s. s.value) (past_none k here)
        by (Some f) here =
            let s = started_state n v k f (state_at h.fields.items k) in
            let made : ℕ → ℕ = λ y. if is_storage f.class then (if is_asserted b n.pins f.reset_by then unwrap_or f.reset y else y) else 0 in
            let soft = software_value b n v k f here access s in
            let order = value_ordered f.hw_first (hardware n v k f) (software b n v access k f) (state_at h.fields.items k).value in
            ap (λ s. s.value) (moved k f here) ∙ ap made (ap (λ y. if f.hw_first then hardware n v k f y else y) soft ∙ order)

    last_next : (k : ℕ) → (state_at states k).last ≡ only_kept b (kept_next b n v) (Last k)
    last_next k = by (slice_get b.fields k) refl
      where
        by : (o : Option Field) → slice_get b.fields k ≡ o
            → (state_at states k).last ≡ (if option_map_or (λ f. keeps_last f.latch) o false then option_map_or (λ f. if is_asserted b n.pins f.reset_by then 0 else option_map_or (λ f. source_value n v f) o 0) o (option_map_or (λ f. source_value n v f) o 0) else 0)
        by None here = ap (λ s. s.last) (past_none k here)
        by (Some f) here =
            let s = started_state n v k f (state_at h.fields.items k) in
            let made : ℕ → ℕ = λ y. if keeps_last f.latch then (if is_asserted b n.pins f.reset_by then 0 else y) else 0 in
            ap (λ s. s.last) (moved k f here) ∙ ap made (software_last b n v k f here access s)

    done_next : (k : ℕ) → (state_at states k).done ≡ only_kept b (kept_next b n v) (Done k)
    done_next k = by (slice_get b.fields k) refl
      where
        by : (o : Option Field) → slice_get b.fields k ≡ o
            → (state_at states k).done ≡ (if option_map_or (λ f. f.once) o false then option_map_or (λ f. if is_asserted b n.pins f.reset_by then 0 else (if uses_up b n v access k then 1 else (state_at h.fields.items k).done)) o (if uses_up b n v access k then 1 else (state_at h.fields.items k).done) else 0)
        by None here = ap (λ s. s.done) (past_none k here)
        by (Some f) here =
            let s = started_state n v k f (state_at h.fields.items k) in
            let made : ℕ → ℕ = λ y. if f.once then (if is_asserted b n.pins f.reset_by then 0 else y) else 0 in
            ap (λ s. s.done) (moved k f here) ∙ ap made (software_done b n v k f here access s)

    -- what is held after the edge
    pub held_is : (h' : Held) (given : ℕ) → h'.fields.items ≡ states → h'.waited ≡ (has_wait b && t.carries) → h'.«data» ≡ (if has_wait b then given else 0) → h'.error ≡ (has_wait b && (t.carries && t.unmapped))
        → given ≡ read_data b v access → map_of h' ≡ only_kept b (kept_next b n v)
    held_is h' given f w d e g = λ i k. each k i
      where
        each : (k : Kept) → map_of h' k ≡ only_kept b (kept_next b n v) k
        each (Val k) = ap (λ ss. (state_at ss k).value) f ∙ value_next k
        each (Last k) = ap (λ ss. (state_at ss k).last) f ∙ last_next k
        each (Done k) = ap (λ ss. (state_at ss k).done) f ∙ done_next k
        each Waited = ap bit_of w ∙ (bit_kept (has_wait b) t.carries ∙ ap (λ z. if has_wait b then bit_of z else 0) tr.carries)
        each Data = d ∙ ap (λ z. if has_wait b then z else 0) g
        each Error = ap bit_of e ∙ (bit_kept (has_wait b) (t.carries && t.unmapped)
            ∙ (ap (λ z. if has_wait b then bit_of (z && t.unmapped) else 0) tr.carries ∙ ap (λ z. if has_wait b then bit_of (carries b (bus_of n.pins) n.kept && z) else 0) tr.unmapped))

-- the edge
pub edge_is : (b : Block) (x : List ℕ) (m : Map) (h h' : Held) (t : Transfer) (v : ItemValues) (outs : List ℕ) → ((k : Kept) → map_of h k ≡ bus_held b (bus_of (pins_of b x)) (held b (pins_of b x) m) k)
    → IsTransfer b (bus_of (pins_of b x)) (map_of h) t → AreItemValues b (at_edge b x h (access_seen t.access)) v → outs ≡ all_outputs b (at_edge b x h (access_seen t.access)) v
    → map_of h' ≡ only_kept b (kept_next b (at_edge b x h (access_seen t.access)) v) → ClockEdge b m x outs (map_of h')
edge_is b x m h h' t v outs same tr vals seen moved =
    let e = now_is b x m h t same tr in
    record {
      items = v;
      valued = subst (λ q. AreItemValues b q v) e vals;
      seen = subst (λ q. outs ≡ all_outputs b q v) e seen;
      moved = subst (λ q. map_of h' ≡ only_kept b (kept_next b q v)) e moved;
    }

-- the edge, where the pins, the table and the states were lent in turn
pub edge_made : (b : Block) (m : Map) (x x1 table t4 t5 t7 : List ℕ) (wanted : List Bool) (order : List RefItem) (states lent : List FieldState) (h h' : Held) (t : Transfer) (given : ℕ) (bus : BusOuts) (items : List RefItem) (outs : List ℕ)
    → IsSound b → IsAllWanted b wanted → AreInOrder b wanted order
    → x1 ≡ x → t4 ≡ table → t5 ≡ table → t7 ≡ table → lent ≡ states → length states ≡ length b.fields
    → ((k : Kept) → map_of h k ≡ bus_held b (bus_of (pins_of b x)) (held b (pins_of b x) m) k)
    → IsTransfer b (bus_of (pins_of b x)) (map_of h) t
    → ((v : ItemValues) → AreItemValues b (at_edge b x1 h (access_seen t.access)) v → (i : RefItem) → Contains order i → values_of table i ≡ v i)
    → ((k : ℕ) (f : Field) → slice_get b.fields k ≡ Some f
    → state_at states k ≡ next_state b (at_edge b x1 h NoAccess) (values_of t4) k f (access_state b (at_edge b x1 h NoAccess) (values_of t4) (access_seen t.access) k (started_state (at_edge b x1 h NoAccess) (values_of t4) k f (state_at h.fields.items k))))
    → given ≡ read_data b (values_of t5) (access_seen t.access) → bus ≡ outs_shown b t h given → items ≡ map (λ o. o.item) (outlets b)
    → outs ≡ bus.ready ∷ bus.«data» ∷ bus.error ∷ map (values_of t7) items
    → h'.fields.items ≡ lent → h'.waited ≡ (has_wait b && t.carries) → h'.«data» ≡ (if has_wait b then given else 0) → h'.error ≡ (has_wait b && (t.carries && t.unmapped))
    → ClockEdge b m x outs (map_of h')
edge_made b m x x1 table t4 t5 t7 wanted order states lent h h' t given bus items outs sound needs listed ex e4 e5 e7 el sized same tr settled moved g s i o f w d e =
    let u = values_of table in
    let a = access_seen t.access in
    let v = item_value b (at_edge b x h a) in
    let vals = are_values b (at_edge b x h a) sound in
    let seen : (i : RefItem) → Contains order i → u i ≡ v i = settled v (subst (λ y. AreItemValues b (at_edge b y h a) v) (sym ex) vals) in
    let alike = are_alike b wanted order u v sound needs listed seen in
    let n = at_edge b x h NoAccess in
    let Q : List ℕ → List ℕ → Type 0 = λ y z. (k : ℕ) (f : Field) → slice_get b.fields k ≡ Some f
    → state_at states k ≡ next_state b (at_edge b y h NoAccess) (values_of z) k f (access_state b (at_edge b y h NoAccess) (values_of z) a k (started_state (at_edge b y h NoAccess) (values_of z) k f (state_at h.fields.items k))) in
    let moved' : Q x table = subst (λ y. Q y table) ex (subst (λ z. Q x1 z) e4 moved) in
    let g' : given ≡ read_data b v a = g ∙ (ap (λ z. read_data b (values_of z) a) e5 ∙ read_same b sound n u v alike a) in
    let shown : map u items ≡ map v items = ap (map u) i ∙ (map-map u (outlets b) ∙ (shown_same u v (outlets b) alike.shown ∙ sym (ap (map v) i ∙ map-map v (outlets b)))) in
    let o' : outs ≡ bus.ready ∷ bus.«data» ∷ bus.error ∷ map v items = o ∙ (ap (λ z. bus.ready ∷ bus.«data» ∷ bus.error ∷ map (values_of z) items) e7 ∙ ap (λ xs. bus.ready ∷ bus.«data» ∷ bus.error ∷ xs) shown) in
    edge_is b x m h h' t v outs same tr vals (shown_is b x h t v tr given bus items outs g' s i o')
    (held_is b x h t v tr states sized (λ k f here. moved' k f here ∙ moved_same b sound n u v alike a k f (state_at h.fields.items k) here) h' given (f ∙ el) w d e g')
