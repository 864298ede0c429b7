-- Each view of a block, clause by clause.
use Rattle.std.proofs.Common.{◌≡◌, ℕ, ◌+◌, ◌≤◌, ◌==◌, false, IsTrue, List, [], ◌∷◌, Some, slice_get, flat_map, count_by}
use Rattle.std.specs.List.{AllByRecursion, enumerate_from}
use Rattle.rb_model.specs.declared.block.Block.{Block}
use Rattle.rb_model.specs.declared.block.Field.{Field}
use Rattle.rb_model.specs.declared.block.View.{View}
use Rattle.rb_model.specs.References.{AreWide, Each, gate_refs}
use Rattle.rb_model.specs.Sound.{ViewIsSound}
use Rattle.rb_model.specs.SoundField.{changes, is_gate_fed}
use Rattle.rdl_values.specs.Instances.{Instance}
use Rattle.rdl_values.specs.Lineages.{Lineage}
use Rattle.rdl_sound_laws.specs.Faultless.{IsFaultless, Leads}

module _ (b : Block) where
  abbrev Of : View → Type 0
  Of v = (f : Field) × (slice_get b.fields v.field ≡ Some f) × (v.alias ≡ false → v.path ≡ f.path)

  abbrev InReads : ℕ × View → Type 0
  InReads v = IsTrue (changes v.1) → count_by (λ s. s.view == v.0) (flat_map (λ w. w.slots) b.reads) ≤ 1

  abbrev InWrites : ℕ × View → Type 0
  InWrites v = IsTrue (changes v.1) → count_by (λ s. s.view == v.0) (flat_map (λ w. w.slots) b.writes) ≤ 1

  pub views-sound : (n : ℕ) (vs : List View) → Each Of vs → Each (λ v. IsTrue (is_gate_fed v.gate)) vs → Each (λ v. AreWide b 1 (gate_refs v.gate)) vs
      → Each InReads (enumerate_from n vs) → Each InWrites (enumerate_from n vs) → Each (ViewIsSound b) (enumerate_from n vs)
  views-sound n [] of fed bit reads writes = tt
  views-sound n (v ∷ vs) of fed bit reads writes = (
    record { of = of.0; gate_fed = fed.0; gate_bit = bit.0; read_in_one_slot = reads.0; written_in_one_slot = writes.0 },
    views-sound (n + 1) vs of.1 fed.1 bit.1 reads.1 writes.1,
  )

pub all-lead : (all : List Lineage) (fs : List Instance) → AllByRecursion (IsFaultless all) fs → AllByRecursion (Leads all) fs
all-lead all [] h = tt
all-lead all (f ∷ fs) h = (h.0.leads, all-lead all fs h.1)
