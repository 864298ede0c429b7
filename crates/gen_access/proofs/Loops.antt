-- The loops over slots and words.
use Rattle.std.proofs.Common.{◌≡◌, ℕ, ◌+◌, ◌<◌, ◌≤◌, Bool, true, IsTrue, if◌then◌else◌, Option, List, length, fold, take, get_or, refl, ◌∙◌, subst}
use Rattle.std.proofs.lemmas.List.{take_all}
use Rattle.std.proofs.lemmas.Option.{slice_get-get_or}
use Rattle.plain_lemmas.proofs.Lists.{any-get as any_at}
use Rattle.rtl_net.specs.Value.{bit_of}
use Rattle.rtl_net.specs.Net.{Net, Grows}
use Rattle.rtl_net.specs.declared.node.Id.{Id}
use Rattle.rtl_net.proofs.Nets.{Grows-trans, Grows-refl}
use Rattle.rb_model.specs.declared.block.Block.{Block}
use Rattle.rb_model.specs.declared.block.Field.{Field}
use Rattle.rb_model.specs.declared.block.View.{View}
use Rattle.rb_model.specs.declared.block.Slot.{Slot}
use Rattle.rb_model.specs.Sound.{view_passes}
use Rattle.rb_model.specs.Items.{Access}
use Rattle.gen_scene.specs.declared.base.Inlet.{Inlet}
use Rattle.gen_scene.specs.Worth.{IsWorth}
use Rattle.gen_scene.proofs.Worths.{IsWorth-grows}
use Rattle.gen_access.specs.Tables.{AreNodes, Changes}
use Rattle.gen_access.specs.Words.{SlotStep, is_at, passes_some}
use Rattle.gen_access.proofs.Turns.{Changes-none, Changes-trans, slots_step, slots_none, slots_more}

-- the first slots of a word
pub record SlotsTo (b : Block) (a : Inlet) (first net : Net) (start table : List Id) (width : Field → ℕ) (reached : Access → Option ℕ) (each : SlotStep) (needs : View → Bool) (hit : Id) (slots : List Slot) (end : ℕ) : Type 0 where
  pub older : Grows first net
  pub name : net.name ≡ first.name
  pub nodes : AreNodes b net table width
  pub changes : (j : ℕ) → (IsTrue (passes_some b needs slots) → IsWorth b a first hit 1 (λ n v. bit_of (is_at j (reached n.access)))) → Changes b a first net start table width (slots_step reached each j (take end slots))

module _ (b : Block) (a : Inlet) (first : Net) (start : List Id) (width : Field → ℕ) (reached : Access → Option ℕ) (each : SlotStep) (needs : View → Bool) (hit : Id) (slots : List Slot) where
  pub slots_start : AreNodes b first start width → SlotsTo b a first first start start width reached each needs hit slots 0
  slots_start nodes = record {
    older = Grows-refl first;
    name = refl;
    nodes = nodes;
    changes = λ j on. Changes-none b a first start width (slots_step reached each j (take 0 slots)) (λ n v k f x. slots_none reached each j slots n v k f x);
  }

  pub slots_next : (net new : Net) (table table' : List Id) (end : ℕ) (d : Slot) → end < length slots → SlotsTo b a first net start table width reached each needs hit slots end
      → Grows net new → new.name ≡ net.name → AreNodes b new table' width
      → ((j : ℕ) → (IsTrue (view_passes b needs (get_or slots end d)) → IsWorth b a net hit 1 (λ n v. bit_of (is_at j (reached n.access)))) → Changes b a net new table table' width (λ n v k f x. if is_at j (reached n.access) then each n v k f x (get_or slots end d) else x))
      → SlotsTo b a first new start table' width reached each needs hit slots (end + 1)
  slots_next net new table table' end d low to h e nodes one = record {
    older = Grows-trans first net new to.older h;
    name = e ∙ to.name;
    nodes = nodes;
    changes = λ j on. Changes-trans b a first net new start table table' width (slots_step reached each j (take end slots)) (λ n v k f x. if is_at j (reached n.access) then each n v k f x (get_or slots end d) else x)
        (slots_step reached each j (take (end + 1) slots)) (λ n v t c k f x. slots_more reached each j slots end d low n v k f x)
        (to.changes j on) (one j (λ t. IsWorth-grows b a first net hit 1 (λ n v. bit_of (is_at j (reached n.access))) to.older (on (any_at (view_passes b needs) slots end (get_or slots end d) (slice_get-get_or slots end d low) t))));
  }

  pub slots_end : (net : Net) (table : List Id) (end : ℕ) (all : List Slot) → slots ≡ all → length slots ≤ end → SlotsTo b a first net start table width reached each needs hit slots end
      → (j : ℕ) → (IsTrue (passes_some b needs all) → IsWorth b a first hit 1 (λ n v. bit_of (is_at j (reached n.access)))) → Changes b a first net start table width (λ n v k f x. if is_at j (reached n.access) then fold (each n v k f) x all else x)
  slots_end net table end all same past to j on = subst (λ ss. Changes b a first net start table width (slots_step reached each j ss)) (take_all end slots past ∙ same) (to.changes j (λ t. on (subst (λ ss. passes_some b needs ss ≡ true) same t)))
