-- A sound block's machine has one run from given kept values over given vectors.
use Rattle.std.proofs.Common.{◌≡◌, ℕ, Bool, true, false, if◌then◌else◌, List, [], ◌∷◌, refl, sym, ◌∙◌, subst}
use Rattle.std.specs.Prelude.{Contains}
use Rattle.rb_model.specs.declared.kinds.RefItem.{RefItem}
use Rattle.rb_model.specs.declared.block.Block.{Block}
use Rattle.rb_model.specs.Kept.{Kept, Val, Last, Done, Waited, Data, Error, Map, is_kept, only_kept}
use Rattle.rb_model.specs.Items.{Now, ItemValues, AreItemValues, items}
use Rattle.rb_model.specs.Machine.{read_data, outputs}
use Rattle.rb_model.specs.Run.{now, pins_of, all_outputs, kept_next, ClockEdge, MachineRun}
use Rattle.rb_model.specs.Sound.{IsSound}
use Rattle.rb_model.proofs.ItemValues.{item_value, are_values, are_one}
use Rattle.rb_model.proofs.SameEdge.{next_same, read_same, outputs_same}

-- the items' values that are found at an edge decide what it makes
module _ (b : Block) (n : Now) (sound : IsSound b) (u v : ItemValues) (right : AreItemValues b n u) (right' : AreItemValues b n v) where
  same : (i : RefItem) → Contains (items b) i → u i ≡ v i
  same = are_one b n sound u v right right'

  pub all_outputs_same : all_outputs b n u ≡ all_outputs b n v
  all_outputs_same =
      let answers : read_data b u n.access ≡ read_data b v n.access = read_same b n u v same sound n.access in
      let others : outputs b u ≡ outputs b v = outputs_same b n u v same sound in
      rw (answers, others) refl

  pub kept_next_same : (k : Kept) → kept_next b n u k ≡ kept_next b n v k
  kept_next_same (Val k) = next_same b n u v same sound (Val k)
  kept_next_same (Last k) = next_same b n u v same sound (Last k)
  kept_next_same (Done k) = next_same b n u v same sound (Done k)
  kept_next_same Waited = refl
  kept_next_same Data = read_same b n u v same sound n.access
  kept_next_same Error = refl

same_if : (c : Bool) (x y : ℕ) → x ≡ y → (if c then x else 0) ≡ (if c then y else 0)
same_if true x y e = e
same_if false x y e = refl

pub only_kept_same : (b : Block) (l m : Map) → ((k : Kept) → l k ≡ m k) → only_kept b l ≡ only_kept b m
only_kept_same b l m e = λ d k. same_if (is_kept b k) (l k) (m k) (e k) d

pub edge_from : (b : Block) → IsSound b → (m : Map) (x : List ℕ) → (outs : List ℕ) × ((after : Map) × ClockEdge b m x outs after)
edge_from b sound m x =
    let n : Now = now b (pins_of b x) m in
    (all_outputs b n (item_value b n), (only_kept b (kept_next b n (item_value b n)), record { items = item_value b n; valued = are_values b n sound; seen = refl; moved = refl }))

pub run_from : (b : Block) → IsSound b → (m : Map) (vectors : List (List ℕ)) → (outs : List (List ℕ)) × MachineRun b m vectors outs
run_from b sound m [] = ([], tt)
run_from b sound m (x ∷ xs) =
    let first : (outs : List ℕ) × ((after : Map) × ClockEdge b m x outs after) = edge_from b sound m x in
    let rest : (outs : List (List ℕ)) × MachineRun b first.1.0 xs outs = run_from b sound first.1.0 xs in
    (first.0 ∷ rest.0, (first.1.0, first.1.1, rest.1))

-- one edge
record OneEdge (outs outs' : List ℕ) (after after' : Map) : Type 0 where
  outs_same : outs ≡ outs'
  after_same : after ≡ after'

one_edge : (b : Block) → IsSound b → (m : Map) (x outs outs' : List ℕ) (after after' : Map) → ClockEdge b m x outs after → ClockEdge b m x outs' after' → OneEdge outs outs' after after'
one_edge b sound m x outs outs' after after' e f =
    let n : Now = now b (pins_of b x) m in
    record {
      outs_same = e.seen ∙ all_outputs_same b n sound e.items f.items e.valued f.valued ∙ sym f.seen;
      after_same = e.moved ∙ only_kept_same b (kept_next b n e.items) (kept_next b n f.items) (kept_next_same b n sound e.items f.items e.valued f.valued) ∙ sym f.moved;
    }

pub one_run : (b : Block) → IsSound b → (m : Map) (vectors first second : List (List ℕ)) → MachineRun b m vectors first → MachineRun b m vectors second → first ≡ second
one_run b sound m [] [] [] h g = refl
one_run b sound m [] [] (p ∷ ps) h g = absurd g
one_run b sound m [] (o ∷ os) ps h g = absurd h
one_run b sound m (x ∷ xs) [] ps h g = absurd h
one_run b sound m (x ∷ xs) (o ∷ os) [] h g = absurd g
one_run b sound m (x ∷ xs) (o ∷ os) (p ∷ ps) h g =
    let e : OneEdge o p h.0 g.0 = one_edge b sound m x o p h.0 g.0 h.1 g.1 in
    let R : Map → Type 0 = λ a. MachineRun b a xs ps in
    let rest : os ≡ ps = one_run b sound h.0 xs os ps h.2 (subst R (sym e.after_same) g.2) in
    let first : o ≡ p = e.outs_same in
    cc

-- the order of the items is in no part of a run
pub order_free : (b : Block) (order : List RefItem) (m : Map) (vectors outs : List (List ℕ)) → MachineRun b m vectors outs → MachineRun (record b { order = order }) m vectors outs
order_free b order m [] [] h = tt
order_free b order m [] (o ∷ os) h = absurd h
order_free b order m (x ∷ xs) [] h = absurd h
order_free b order m (x ∷ xs) (o ∷ os) h =
    (h.0, record { items = h.1.items; valued = h.1.valued; seen = h.1.seen; moved = h.1.moved }, order_free b order h.0 xs os h.2)
