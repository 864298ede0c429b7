-- What a block finds at an edge.
use Rattle.std.specs.Prelude.{◌≡◌, ℕ, ◌≤◌, Bool, false, ◌&&◌, if◌then◌else◌, Some, List, length, map, slice_get, get_or}
use Rattle.v_design.specs.Expr.{bit_of}
use Rattle.rb_model.specs.declared.block.Field.{Field}
use Rattle.rb_model.specs.declared.block.Block.{Block}
use Rattle.rb_model.specs.Kept.{Map, Val, Last, Done, Waited, Data, Error}
use Rattle.rb_model.specs.Ports.{input_pins}
use Rattle.rb_model.specs.Run.{pins_of}
use Rattle.rb_model.specs.Sound.{IsSound}
use Rattle.rb_model.specs.Effects.{has_read_effect}
use Rattle.rb_model.specs.Items.{Access, Now, ItemValues, reaches, raises, is_on}
use Rattle.rb_machine.specs.declared.sight.FieldState.{FieldState}
use Rattle.rb_machine.specs.declared.sight.FieldNow.{FieldNow}
use Rattle.rb_machine.specs.declared.scene.Held.{Held}
use Rattle.rb_machine.specs.declared.scene.Strobes.{Strobes}
use Rattle.rb_machine.specs.declared.scene.EdgeState.{EdgeState}
use Rattle.block_plan.specs.Plan.{IsPlanOf}
use Rattle.rb_machine.specs.Moves.{kept_state}
use Rattle.rb_machine.specs.Plain.{AreSteps}
use Rattle.rb_machine.specs.Quiet.{AreNextBusy, brief_of}
use Rattle.rb_machine.specs.Resets.{NoneReset}
use Rattle.rb_machine.specs.Sight.{Sees}

-- what is kept of a field that there isn't
abbrev pub no_state : FieldState
no_state = record { value = 0; last = 0; done = 0 }

abbrev pub state_at : List FieldState → ℕ → FieldState
state_at states k = get_or states k no_state

-- the map that is held
abbrev pub map_of : Held → Map
map_of h (Val k) = (state_at h.fields.items k).value
map_of h (Last k) = (state_at h.fields.items k).last
map_of h (Done k) = (state_at h.fields.items k).done
map_of h Waited = bit_of h.waited
map_of h Data = h.«data»
map_of h Error = bit_of h.error

-- what software does to a field that there isn't
abbrev pub no_mark : Strobes
no_mark = record { modified = false; accessed = false }

abbrev pub mark_at : List Strobes → ℕ → Strobes
mark_at marks k = get_or marks k no_mark

-- the marks of an access
pub record AreStrobes (b : Block) (a : Access) (marks : List Strobes) : Type 0 where
  pub modified : (k : ℕ) → (mark_at marks k).modified ≡ reaches b a k (λ w. has_read_effect w.on_read) (λ w. w.writes)
  pub accessed : (k : ℕ) → (mark_at marks k).accessed ≡ reaches b a k (λ w. w.reads) (λ w. w.writes)

-- of each field nothing is held but what it keeps
abbrev pub HoldsKept : List Field → List FieldState → Type 0
HoldsKept fields states = (k : ℕ) (f : Field) → slice_get fields k ≡ Some f → kept_state f (state_at states k) ≡ state_at states k

-- what an access finds
abbrev pub now_in : EdgeState → Access → Now
now_in s a = record { access = a; pins = pins_of s.block.now s.pins.now; kept = map_of s.held.now }

-- a scene of a sound block
pub record IsEdgeState (s : EdgeState) : Type 0 where
  pub sound : IsSound s.block.now
  pub planned : IsPlanOf s.block.now s.plan.now
  pub pins : length s.pins.now ≡ length (input_pins s.block.now)
  pub held : length s.held.now.fields.items ≡ length s.block.now.fields
  pub briefs : s.briefs.now ≡ map brief_of s.block.now.fields
  pub next : AreNextBusy s.block.now.fields s.next.now
  pub steps : AreSteps s.block.now.fields s.plan.now.fields.items s.steps.now
  pub kept : s.is_reset ≡ false → HoldsKept s.block.now.fields s.held.now.fields.items
  pub calm : s.is_reset ≡ false → NoneReset s.block.now (pins_of s.block.now s.pins.now)

-- a field at an edge
pub record IsAt (s : EdgeState) (values : List ℕ) (k : ℕ) (f : FieldNow) : Type 0 where
  pub here : slice_get s.block.now.fields k ≡ Some f.field.now
  pub table : f.table.now ≡ values
  pub wide : f.field.now.width ≤ 64
  pub sees : (a : Access) → Sees (now_in s a) k f
  pub state : state_at s.held.now.fields.items k ≡ f.state

-- the field raises the line intr of register r, or its line halt
abbrev pub raises_line : ItemValues → (halt : Bool) → ℕ → ℕ × Field → Bool
raises_line v halt r f = if halt then is_on f.1.halt && raises v r f.1.halt f else raises v r f.1.enable f
