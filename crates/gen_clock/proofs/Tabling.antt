-- Tables built one field after the other.
use Rattle.std.proofs.Common.{◌≡◌, ℕ, ◌+◌, ◌<◌, Some, List, [], ◌∷◌, ◌++◌, length, slice_get, refl, sym, ap, ◌∙◌, subst, arith, inl, inr}
use Rattle.std.proofs.lemmas.List.{length-append, get_or_append_left, get_or_at}
use Rattle.std.proofs.lemmas.Option.{slice_get_within}
use Rattle.plain_lemmas.proofs.Numbers.{below_next-or_same as split}
use Rattle.rtl_net.specs.Net.{Net, Grows}
use Rattle.rtl_net.specs.Ids.{at}
use Rattle.rtl_net.specs.declared.node.Id.{Id}
use Rattle.rtl_net.proofs.Nets.{Grows-refl, Grows-trans}
use Rattle.rb_model.specs.declared.kinds.RefItem.TheVariants as item
use Rattle.rb_model.specs.declared.block.Block.{Block}
use Rattle.rb_model.specs.declared.block.Field.{Field}
use Rattle.rb_model.specs.Items.{Now, ItemValues}
use Rattle.block_plan.specs.Table.{item_place}
use Rattle.gen_scene.specs.declared.base.Inlet.{Inlet}
use Rattle.gen_scene.specs.declared.scene.Scene.{Scene}
use Rattle.gen_scene.specs.Worth.{IsWorth}
use Rattle.gen_scene.proofs.Worths.{IsWorth-grows}
use Rattle.gen_access.specs.Tables.{AreNodes, AreWorth}

at_front : (ids : List Id) (id : Id) (k : ℕ) → k < length ids → at (ids ++ id ∷ []) k ≡ at ids k
at_front ids id k l = get_or_append_left ids (id ∷ []) (record { 0 = 0 }) k l

at_end : (ids : List Id) (id : Id) (k : ℕ) → length ids ≡ k → at (ids ++ id ∷ []) k ≡ id
at_end ids id k e = get_or_at ids id [] (record { 0 = 0 }) k e

-- the values of the first fields
pub record ValuesTo (s : Scene) (ids : List Id) (end : ℕ) : Type 0 where
  pub long : length ids ≡ end
  pub each : (k : ℕ) → k < end → at ids k ≡ at s.items.now (item_place (item.Field k))

pub values_more : (s : Scene) (ids more : List Id) (end : ℕ) (number : ℕ) (id : Id) → ValuesTo s ids end → number ≡ end → id ≡ at s.items.now (item_place (item.Field number)) → more ≡ ids ++ id ∷ [] → ValuesTo s more (end + 1)
values_more s ids more end number id to n is e = record {
  long = ap length e ∙ length-append ids (id ∷ []) ∙ (let l = to.long in omega arith);
  each = λ k l. elim (split k end l) [
    | inl p ↦ ap (λ t. at t k) e ∙ at_front ids id k (let z = to.long in omega arith) ∙ to.each k p
    | inr p ↦ ap (λ t. at t k) e ∙ ap (at (ids ++ id ∷ [])) p ∙ at_end ids id end to.long ∙ is ∙ ap (λ m. at s.items.now (item_place (item.Field m))) (n ∙ sym p)
  ];
}

-- nodes of the first fields
pub record NodesTo (b : Block) (a : Inlet) (first net : Net) (ids : List Id) (width : Field → ℕ) (g : ℕ → Field → Now → ItemValues → ℕ) (end : ℕ) : Type 0 where
  pub older : Grows first net
  pub name : net.name ≡ first.name
  pub long : length ids ≡ end
  pub each : (k : ℕ) (f : Field) → k < end → slice_get b.fields k ≡ Some f → IsWorth b a net (at ids k) (width f) (g k f)

pub nodes_none : (b : Block) (a : Inlet) (net : Net) (ids : List Id) (width : Field → ℕ) (g : ℕ → Field → Now → ItemValues → ℕ) → ids ≡ [] → NodesTo b a net net ids width g 0
nodes_none b a net ids width g e = record { older = Grows-refl net; name = refl; long = ap length e; each = λ k f l. absurd (omega arith) }

pub nodes_more : (b : Block) (a : Inlet) (first net new : Net) (ids more : List Id) (width : Field → ℕ) (g : ℕ → Field → Now → ItemValues → ℕ) (end : ℕ) (id : Id) → NodesTo b a first net ids width g end
    → Grows net new → new.name ≡ net.name → ((f : Field) → slice_get b.fields end ≡ Some f → IsWorth b a new id (width f) (g end f)) → more ≡ ids ++ id ∷ [] → NodesTo b a first new more width g (end + 1)
nodes_more b a first net new ids more width g end id to h same here e = record {
  older = Grows-trans first net new to.older h;
  name = same ∙ to.name;
  long = ap length e ∙ length-append ids (id ∷ []) ∙ (let l = to.long in omega arith);
  each = λ k f l q. elim (split k end l) [
    | inl p ↦ subst (λ i. IsWorth b a new i (width f) (g k f)) (sym (ap (λ t. at t k) e ∙ at_front ids id k (let z = to.long in omega arith))) (IsWorth-grows b a net new (at ids k) (width f) (g k f) h (to.each k f p q))
    | inr p ↦
        let R : ℕ → Type 0 = λ k. IsWorth b a new (at more k) (width f) (g k f) in
        subst R (sym p) (subst (λ i. IsWorth b a new i (width f) (g end f)) (sym (ap (λ t. at t end) e ∙ at_end ids id end to.long)) (here f (ap (slice_get b.fields) (sym p) ∙ q)))
  ];
}

pub nodes_worth : (b : Block) (a : Inlet) (first net : Net) (ids : List Id) (width : Field → ℕ) (g : ℕ → Field → Now → ItemValues → ℕ) (end : ℕ) → end ≡ length b.fields → NodesTo b a first net ids width g end → AreWorth b a net ids width g
nodes_worth b a first net ids width g end all to = record { each = λ k f e. to.each k f (let l = slice_get_within b.fields k f e in omega arith) e }

pub nodes_stand : (b : Block) (a : Inlet) (first net : Net) (ids : List Id) (width : Field → ℕ) (g : ℕ → Field → Now → ItemValues → ℕ) (end : ℕ) → end ≡ length b.fields → NodesTo b a first net ids width g end → AreNodes b net ids width
nodes_stand b a first net ids width g end all to = record { long = to.long ∙ all; each = λ k f e. (to.each k f (let l = slice_get_within b.fields k f e in omega arith) e).stands }
