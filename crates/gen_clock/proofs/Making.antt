-- One step of hardware after the other.
use Rattle.std.proofs.Common.{◌≡◌, ℕ, true, false, if◌then◌else◌, Option, Some, None, is_some, codes, refl, sym, ap, ◌∙◌}
use Rattle.std.specs.Prelude.{option_and_then}
use Rattle.std.specs.Option.{option_map, option_map_or}
use Rattle.rtl_net.specs.Value.{At}
use Rattle.rtl_net.specs.Net.{Net, Grows, IsNode, Stands}
use Rattle.rtl_net.specs.declared.node.Id.{Id}
use Rattle.rtl_net.proofs.Nets.{Grows-trans}
use Rattle.rb_base.specs.declared.trigger.Trigger.TheVariants as trigger
use Rattle.rb_model.specs.declared.kinds.Count.{Count}
use Rattle.rb_model.specs.declared.kinds.Latch.{Latch}
use Rattle.rb_model.specs.declared.kinds.Latch.TheVariants as latch
use Rattle.rb_model.specs.declared.block.Block.{Block}
use Rattle.rb_model.specs.declared.block.Field.{Field}
use Rattle.rb_model.specs.Effects.{counted, is_latching, latched, loaded}
use Rattle.rb_model.specs.Kept.{Last, keeps_last}
use Rattle.rb_model.specs.Items.{Now, ItemValues, gated, level_value, source_value}
use Rattle.rb_model.specs.Machine.{counts, hardware}
use Rattle.gen_scene.specs.declared.base.Inlet.{Inlet}
use Rattle.gen_scene.specs.Worth.{IsRead, IsWorth}
use Rattle.gen_scene.proofs.Worths.{IsWorth-grows}
use Rattle.gen_clock.specs.Moves.{IsFinished, IsMade}

module _ (b : Block) (a : Inlet) where
  pub worth5 : {X Y Z V W : Type 0} (old new : Net) (id : Id) (w : ℕ) (F : X → Y → Z → V → W → ℕ) (r : At → X) (s : At → Y) (t : At → Z) (p : At → V) (q : At → W)
      (gr : Now → ItemValues → X) (gs : Now → ItemValues → Y) (gt : Now → ItemValues → Z) (gp : Now → ItemValues → V) (gq : Now → ItemValues → W) → Grows old new
      → IsNode new id w (λ x. F (r x) (s x) (t x) (p x) (q x)) → IsRead b a old r gr → IsRead b a old s gs → IsRead b a old t gt → IsRead b a old p gp → IsRead b a old q gq
      → IsWorth b a new id w (λ n k. F (gr n k) (gs n k) (gt n k) (gp n k) (gq n k))
  worth5 old new id w F r s t p q gr gs gt gp gq h node hr hs ht hp hq = record {
    stands = node.stands;
    value = λ v z n f items c.
        let y = h.settles v z in
        node.value v z ∙ ap (λ x. F x (s v) (t v) (p v) (q v)) (hr.value v y n f items c) ∙ ap (λ x. F (gr n items) x (t v) (p v) (q v)) (hs.value v y n f items c)
        ∙ ap (λ x. F (gr n items) (gs n items) x (p v) (q v)) (ht.value v y n f items c) ∙ ap (λ x. F (gr n items) (gs n items) (gt n items) x (q v)) (hp.value v y n f items c)
        ∙ ap (λ x. F (gr n items) (gs n items) (gt n items) (gp n items) x) (hq.value v y n f items c);
  }

  -- a step that is another
  pub made_as : (old new : Net) (v id : Id) (w : ℕ) (first second : Now → ItemValues → ℕ → ℕ) → ((n : Now) (u : ItemValues) (x : ℕ) → first n u x ≡ second n u x) → IsMade b a old new v id w first → IsMade b a old new v id w second
  made_as old new v id w first second same m = record {
    stands = m.stands;
    worth = λ g at. let r = m.worth g at in record { stands = r.stands; value = λ x q n found items c. r.value x q n found items c ∙ same n items (g n items) };
  }

  pub made_none : (net : Net) (v : Id) (w : ℕ) (step : Now → ItemValues → ℕ → ℕ) → Stands net v w → ((n : Now) (u : ItemValues) (x : ℕ) → step n u x ≡ x) → IsMade b a net net v v w step
  made_none net v w step s same = record {
    stands = s;
    worth = λ g at. record { stands = at.stands; value = λ x q n found items c. at.value x q n found items c ∙ sym (same n items (g n items)) };
  }

  pub made_from : (first old new : Net) (v id : Id) (w : ℕ) (step : Now → ItemValues → ℕ → ℕ) → Grows first old → IsMade b a old new v id w step → IsMade b a first new v id w step
  made_from first old new v id w step h m = record { stands = m.stands; worth = λ g at. m.worth g (IsWorth-grows b a first old v w g h at) }

-- Counts

pub counts_are : (o : Option Count) (w x u d : ℕ) (value : ItemValues) → is_some o ≡ true
    → counted w x u d (option_and_then (λ (c : Count). option_map (level_value value) c.high) o) (option_and_then (λ (c : Count). option_map (level_value value) c.low) o)
    ≡ option_map_or (λ (c : Count). counted w x u d (option_map (level_value value) c.high) (option_map (level_value value) c.low)) o x
counts_are None w x u d value h = cc
counts_are (Some c) w x u d value h = refl

pub uncounted : (o : Option Count) (g : Count → ℕ) (x : ℕ) → is_some o ≡ false → option_map_or g o x ≡ x
uncounted None g x h = refl
uncounted (Some c) g x h = cc

-- Latches

-- the last input is not asked where it isn't kept
pub latched_kept : (how : Latch) (w x s l : ℕ) → latched how w x s (if keeps_last how then l else 0) ≡ latched how w x s l
latched_kept latch.Off w x s l = refl
latched_kept latch.Plain w x s l = refl
latched_kept (latch.Bits trigger.Level) w x s l = refl
latched_kept (latch.Bits trigger.Posedge) w x s l = refl
latched_kept (latch.Bits trigger.Negedge) w x s l = refl
latched_kept (latch.Bits trigger.Bothedge) w x s l = refl
latched_kept (latch.Bits trigger.Nonsticky) w x s l = refl
latched_kept (latch.Whole trigger.Level) w x s l = refl
latched_kept (latch.Whole trigger.Posedge) w x s l = refl
latched_kept (latch.Whole trigger.Negedge) w x s l = refl
latched_kept (latch.Whole trigger.Bothedge) w x s l = refl
latched_kept (latch.Whole trigger.Nonsticky) w x s l = refl

pub unlatched : (how : Latch) (w x s l : ℕ) → is_latching how ≡ false → latched how w x s l ≡ x
unlatched latch.Off w x s l h = refl
unlatched latch.Plain w x s l h = refl
unlatched (latch.Bits e) w x s l h = cc
unlatched (latch.Whole e) w x s l h = cc

-- All steps

pub moved_made : (b : Block) (a : Inlet) (n0 n1 n2 n3 n4 : Net) (k : ℕ) (f : Field) (v load count events id : Id)
    → Grows n0 n1 → Grows n1 n2 → Grows n2 n3 → Stands n0 v f.width
    → IsMade b a n0 n1 v load f.width (λ n u x. loaded f x (source_value n u f) (gated n u f.gate (codes "we$") (codes "wel$") f.path))
    → IsMade b a n1 n2 load count f.width (λ n u x. counts n u f x)
    → IsMade b a n2 n3 count events f.width (λ n u x. latched f.latch f.width x (source_value n u f) (n.kept (Last k)))
    → IsFinished b a n3 n4 f v events id
    → IsMade b a n0 n4 v id f.width (λ n u x. hardware n u k f x)
moved_made b a n0 n1 n2 n3 n4 k f v load count events id h1 h2 h3 s m1 m2 m3 last = record {
  stands = last.stands;
  worth = λ g at.
      let r1 = m1.worth g at in
      let r2 = m2.worth _ r1 in
      let r3 = m3.worth _ r2 in
      last.worth g _ (IsWorth-grows b a n0 n3 v f.width g (Grows-trans n0 n2 n3 (Grows-trans n0 n1 n2 h1 h2) h3) at) r3;
}
