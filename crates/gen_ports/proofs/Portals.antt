-- The names and widths of a block's ports.
use Rattle.std.proofs.Common.{◌≡◌, ℕ, ◌<◌, ◌≤◌, ◌==◌, Bool, true, false, not, ◌&&◌, if◌then◌else◌, Option, Some, None, List, [], ◌∷◌, ◌++◌, codes, map, filter, slice_get, refl, sym, ◌∙◌, arith}
use Rattle.std.specs.List.{enumerate_from, flat_map, list_all}
use Rattle.std.specs.Str.{bytes_eq}
use Rattle.plain_lemmas.proofs.Bools.{and-both as and_parts}
use Rattle.rb_base.specs.declared.ports.Pin.{Pin}
use Rattle.rb_base.specs.declared.ports.Port.{Port}
use Rattle.v_design.specs.Lexemes as design
use Rattle.v_design.specs.WellFormed.{distinct}
use Rattle.rtl_net.specs.Names as names
use Rattle.rtl_net.specs.Names.{clock, is_net_name}
use Rattle.rtl_net.specs.Net.{IsWidth}
use Rattle.rb_model.specs.declared.kinds.Amount.{Amount}
use Rattle.rb_model.specs.declared.kinds.Amount.TheVariants as amount
use Rattle.rb_model.specs.declared.kinds.Count.{Count}
use Rattle.rb_model.specs.declared.kinds.Gate.{Gate}
use Rattle.rb_model.specs.declared.kinds.Gate.TheVariants as gate
use Rattle.rb_model.specs.declared.kinds.Part.{Part}
use Rattle.rb_model.specs.declared.kinds.Shown.{Shown}
use Rattle.rb_model.specs.declared.kinds.Shown.TheVariants as shown
use Rattle.rb_model.specs.declared.kinds.RefItem.TheVariants as item
use Rattle.rb_model.specs.declared.block.Block.{Block}
use Rattle.rb_model.specs.declared.block.Field.{Field}
use Rattle.rb_model.specs.declared.block.Reg.{Reg}
use Rattle.rb_model.specs.declared.block.Signal.{Signal}
use Rattle.rb_model.specs.declared.block.View.{View}
use Rattle.rb_model.specs.Kept.{when}
use Rattle.rb_model.specs.Ports.{Outlet, amount_pins, block_ports, count_pins, field_outlets, field_pins, field_ports, gate_pins, input, is_pin, outlet, output, part_pins, pin, reg_outlets, shown_item, shown_word, signal_name, signal_pins, view_pins}
use Rattle.rb_model.specs.References.{Each, WithSome}
use Rattle.rb_model.specs.Sound.{IsSound, is_path}
use Rattle.rb_model.specs.SoundField.{AmountFits, CountFits, FieldIsSound, FieldIsSoundIn, PartFits}
use Rattle.rb_model.proofs.Eachs.{Each-always, Each-append, Each-at, Each-flat_map, Each-from_zero, Each-map, Each-numbered_all, Each-passing, Each-weaker}
use Rattle.gen_scene.proofs.ResetPins.{bytes_wider}
use Rattle.gen_ports.specs.Laid.{IsPort}
use Rattle.plain_lemmas.proofs.Lists.{all-get as list_at}

-- a name and a width that a port may have, other than the clock's
pub record IsPortal (name : List ℕ) (w : ℕ) : Type 0 where
  pub named : names.is_net_name name ≡ true
  pub wide : IsWidth w
  pub other : bytes_eq name clock ≡ false

abbrev IsPortalPin : Pin → Type 0
IsPortalPin p = IsPortal p.name p.width

abbrev pub IsPortalPort : Port → Type 0
IsPortalPort p = IsPortal p.name p.width

abbrev IsPath : List ℕ → Type 0
IsPath path = list_all names.is_name_byte path ≡ true

-- Words and paths

record Begins (word : List ℕ) : Type 0 where
  named : (path : List ℕ) → IsPath path → names.is_net_name (word ++ path) ≡ true
  other : (path : List ℕ) → bytes_eq (word ++ path) clock ≡ false

global_begins : Begins (codes "global$")
global_begins = record { named = λ path p. rw p refl; other = λ path. refl }

signal_begins : Begins (codes "signal$")
signal_begins = record { named = λ path p. rw p refl; other = λ path. refl }

in_begins : Begins (codes "in$")
in_begins = record { named = λ path p. rw p refl; other = λ path. refl }

we_begins : Begins (codes "we$")
we_begins = record { named = λ path p. rw p refl; other = λ path. refl }

wel_begins : Begins (codes "wel$")
wel_begins = record { named = λ path p. rw p refl; other = λ path. refl }

swwe_begins : Begins (codes "swwe$")
swwe_begins = record { named = λ path p. rw p refl; other = λ path. refl }

swwel_begins : Begins (codes "swwel$")
swwel_begins = record { named = λ path p. rw p refl; other = λ path. refl }

hwset_begins : Begins (codes "hwset$")
hwset_begins = record { named = λ path p. rw p refl; other = λ path. refl }

hwclr_begins : Begins (codes "hwclr$")
hwclr_begins = record { named = λ path p. rw p refl; other = λ path. refl }

incr_begins : Begins (codes "incr$")
incr_begins = record { named = λ path p. rw p refl; other = λ path. refl }

incrvalue_begins : Begins (codes "incrvalue$")
incrvalue_begins = record { named = λ path p. rw p refl; other = λ path. refl }

decr_begins : Begins (codes "decr$")
decr_begins = record { named = λ path p. rw p refl; other = λ path. refl }

decrvalue_begins : Begins (codes "decrvalue$")
decrvalue_begins = record { named = λ path p. rw p refl; other = λ path. refl }

out_begins : Begins (codes "out$")
out_begins = record { named = λ path p. rw p refl; other = λ path. refl }

intr_begins : Begins (codes "intr$")
intr_begins = record { named = λ path p. rw p refl; other = λ path. refl }

halt_begins : Begins (codes "halt$")
halt_begins = record { named = λ path p. rw p refl; other = λ path. refl }

shown_begins : (s : Shown) → Begins (shown_word s)
shown_begins shown.Anded = record { named = λ path p. rw p refl; other = λ path. refl }
shown_begins shown.Ored = record { named = λ path p. rw p refl; other = λ path. refl }
shown_begins shown.Xored = record { named = λ path p. rw p refl; other = λ path. refl }
shown_begins shown.IncrThreshold = record { named = λ path p. rw p refl; other = λ path. refl }
shown_begins shown.DecrThreshold = record { named = λ path p. rw p refl; other = λ path. refl }
shown_begins shown.Overflow = record { named = λ path p. rw p refl; other = λ path. refl }
shown_begins shown.Underflow = record { named = λ path p. rw p refl; other = λ path. refl }
shown_begins shown.SwMod = record { named = λ path p. rw p refl; other = λ path. refl }
shown_begins shown.SwAcc = record { named = λ path p. rw p refl; other = λ path. refl }

portal : (word path : List ℕ) (w : ℕ) → Begins word → IsPath path → IsWidth w → IsPortal (word ++ path) w
portal word path w b p l = record { named = b.named path p; wide = l; other = b.other path }

one_bit : IsWidth 1
one_bit = (omega arith, omega arith)

narrow : (w : ℕ) → (0 < w) × (w ≤ 64) → IsWidth w
narrow w h = (h.0, (let l = h.1 in omega arith))

path_of : (bs : List ℕ) → is_path bs ≡ true → IsPath bs
path_of bs h = bytes_wider bs h

-- Pins

when_portal : (c : Bool) (name : List ℕ) (w : ℕ) → IsPortal name w → Each IsPortalPin (when c (pin name w))
when_portal true name w h = (h, tt)
when_portal false name w h = tt

gate_portals : (g : Gate) (high low path : List ℕ) → Begins high → Begins low → IsPath path → Each IsPortalPin (gate_pins g high low path)
gate_portals gate.Always high low path h l p = tt
gate_portals (gate.High from) high low path h l p = when_portal (is_pin from) (high ++ path) 1 (portal high path 1 h p one_bit)
gate_portals (gate.Low from) high low path h l p = when_portal (is_pin from) (low ++ path) 1 (portal low path 1 l p one_bit)

amount_portals : (a : Amount) (word path : List ℕ) (w : ℕ) → w ≤ 64 → AmountFits w a → Begins word → IsPath path → Each IsPortalPin (amount_pins a (word ++ path))
amount_portals (amount.Number n) word path w l h b p = tt
amount_portals (amount.Item i) word path w l h b p = tt
amount_portals (amount.Pin n) word path w l h b p = (portal word path n b p (h.0, (let m = h.1 in omega (arith, m, l))), tt)

part_portals : (o : Option Part) (pulse value path : List ℕ) (w : ℕ) → w ≤ 64 → WithSome o (PartFits w) → Begins pulse → Begins value → IsPath path → Each IsPortalPin (part_pins o (pulse ++ path) (value ++ path))
part_portals None pulse value path w l h a b p = tt
part_portals (Some c) pulse value path w l h a b p =
    Each-append IsPortalPin (when (is_pin c.pulse) (pin (pulse ++ path) 1)) (amount_pins c.amount (value ++ path))
    (when_portal (is_pin c.pulse) (pulse ++ path) 1 (portal pulse path 1 a p one_bit)) (amount_portals c.amount value path w l h.1 b p)

count_portals : (o : Option Count) (path : List ℕ) (w : ℕ) → w ≤ 64 → WithSome o (CountFits w) → IsPath path → Each IsPortalPin (count_pins o path)
count_portals None path w l h p = tt
count_portals (Some c) path w l h p =
    Each-append IsPortalPin (part_pins c.up (codes "incr$" ++ path) (codes "incrvalue$" ++ path)) (part_pins c.down (codes "decr$" ++ path) (codes "decrvalue$" ++ path))
    (part_portals c.up (codes "incr$") (codes "incrvalue$") path w l h.up incr_begins incrvalue_begins p) (part_portals c.down (codes "decr$") (codes "decrvalue$") path w l h.down decr_begins decrvalue_begins p)

view_portals : (v : View) → IsPath v.path → Each IsPortalPin (view_pins v)
view_portals v p = gate_portals v.gate (codes "swwe$") (codes "swwel$") v.path swwe_begins swwel_begins p

passing_views : (views : List View) (test : View → Bool) → list_all (λ v. is_path v.path) views ≡ true → Each IsPortalPin (flat_map view_pins (filter test views))
passing_views views test h =
    Each-flat_map IsPortalPin view_pins (filter test views)
    (Each-passing (λ v. Each IsPortalPin (view_pins v)) test views (λ k v e t. view_portals v (path_of v.path (list_at (λ v. is_path v.path) views k v h e))))

field_portals : (views : List View) → list_all (λ v. is_path v.path) views ≡ true → (k : ℕ) (f : Field) → IsPath f.path → FieldIsSound f → Each IsPortalPin (field_pins views (k, f))
field_portals views vs k f p s =
    let source = when (is_pin f.source) (pin (codes "in$" ++ f.path) f.width) in
    let gates = gate_pins f.gate (codes "we$") (codes "wel$") f.path in
    let own = flat_map view_pins (filter (λ v. v.field == k && not v.alias) views) in
    let set = when (is_pin f.set) (pin (codes "hwset$" ++ f.path) 1) in
    let clear = when (is_pin f.clear) (pin (codes "hwclr$" ++ f.path) 1) in
    let count = count_pins f.count f.path in
    let few = s.wide.1 in
    Each-append IsPortalPin (source ++ gates ++ own ++ set ++ clear) count
    (Each-append IsPortalPin (source ++ gates ++ own ++ set) clear
    (Each-append IsPortalPin (source ++ gates ++ own) set
    (Each-append IsPortalPin (source ++ gates) own
    (Each-append IsPortalPin source gates
    (when_portal (is_pin f.source) (codes "in$" ++ f.path) f.width (portal (codes "in$") f.path f.width in_begins p (narrow f.width s.wide)))
    (gate_portals f.gate (codes "we$") (codes "wel$") f.path we_begins wel_begins p))
    (passing_views views (λ v. v.field == k && not v.alias) vs))
    (when_portal (is_pin f.set) (codes "hwset$" ++ f.path) 1 (portal (codes "hwset$") f.path 1 hwset_begins p one_bit)))
    (when_portal (is_pin f.clear) (codes "hwclr$" ++ f.path) 1 (portal (codes "hwclr$") f.path 1 hwclr_begins p one_bit)))
    (count_portals f.count f.path f.width few s.count p)

signal_portals : (root : Bool) (ss : List Signal) → Each (λ s. (0 < s.width) × (s.width ≤ 64) × (is_path s.path ≡ true)) ss → Each IsPortalPin (signal_pins root ss)
signal_portals root ss h =
    Each-map IsPortalPin (λ s. pin (signal_name s) s.width) (filter (λ s. if root then s.root else not s.root) ss)
    (Each-passing (λ s. IsPortal (signal_name s) s.width) (λ s. if root then s.root else not s.root) ss
    (λ k s e t. let g = Each-at (λ s. (0 < s.width) × (s.width ≤ 64) × (is_path s.path ≡ true)) ss k s h e in by s s.root (path_of s.path g.2) (narrow s.width (g.0, g.1))))
  where
    by : (s : Signal) (c : Bool) → IsPath s.path → IsWidth s.width → IsPortal ((if c then codes "global$" else codes "signal$") ++ s.path) s.width
    by s true p l = portal (codes "global$") s.path s.width global_begins p l
    by s false p l = portal (codes "signal$") s.path s.width signal_begins p l

-- Outputs

abbrev IsPortalOutlet : Outlet → Type 0
IsPortalOutlet o = IsPortal o.name o.width

when_outlet : (c : Bool) (o : Outlet) → IsPortalOutlet o → Each IsPortalOutlet (when c o)
when_outlet true o h = (h, tt)
when_outlet false o h = tt

field_outlet_portals : (k : ℕ) (f : Field) → IsPath f.path → FieldIsSound f → Each IsPortalOutlet (field_outlets (k, f))
field_outlet_portals k f p s =
    Each-append IsPortalOutlet (when f.hw_reads (outlet (codes "out$" ++ f.path) f.width (item.Field k))) (map (λ s. outlet (shown_word s ++ f.path) 1 (shown_item k s)) f.shown)
    (when_outlet f.hw_reads (outlet (codes "out$" ++ f.path) f.width (item.Field k)) (portal (codes "out$") f.path f.width out_begins p (narrow f.width s.wide)))
    (Each-map IsPortalOutlet (λ s. outlet (shown_word s ++ f.path) 1 (shown_item k s)) f.shown (Each-always (λ s. IsPortal (shown_word s ++ f.path) 1) (λ s. portal (shown_word s) f.path 1 (shown_begins s) p one_bit) f.shown))

reg_outlet_portals : (k : ℕ) (r : Reg) → IsPath r.path → Each IsPortalOutlet (reg_outlets (k, r))
reg_outlet_portals k r p =
    Each-append IsPortalOutlet (when r.intr (outlet (codes "intr$" ++ r.path) 1 (item.Intr k))) (when r.halt (outlet (codes "halt$" ++ r.path) 1 (item.Halt k)))
    (when_outlet r.intr (outlet (codes "intr$" ++ r.path) 1 (item.Intr k)) (portal (codes "intr$") r.path 1 intr_begins p one_bit))
    (when_outlet r.halt (outlet (codes "halt$" ++ r.path) 1 (item.Halt k)) (portal (codes "halt$") r.path 1 halt_begins p one_bit))

-- All ports of a block

inputs_are : (ps : List Pin) → Each IsPortalPin ps → Each IsPortalPort (map input ps)
inputs_are ps h = Each-map IsPortalPort input ps h

outputs_are : (os : List Outlet) → Each IsPortalOutlet os → Each IsPortalPort (map output os)
outputs_are os h = Each-map IsPortalPort output os h

module _ (b : Block) (sound : IsSound b) where
  views_named : list_all (λ v. is_path v.path) b.views ≡ true
  views_named = (and_parts (distinct (map (λ v. v.path) b.views)) (list_all (λ v. is_path v.path) b.views) sound.view_paths).1

  field_path : (k : ℕ) (f : Field) → slice_get b.fields k ≡ Some f → IsPath f.path
  field_path k f e = path_of f.path (list_at (λ g. is_path g.path) b.fields k f (and_parts (distinct (map (λ g. g.path) b.fields)) (list_all (λ g. is_path g.path) b.fields) sound.field_paths).1 e)

  reg_path : (k : ℕ) (r : Reg) → slice_get b.regs k ≡ Some r → IsPath r.path
  reg_path k r e = path_of r.path (list_at (λ g. is_path g.path) b.regs k r (and_parts (distinct (map (λ g. g.path) b.regs)) (list_all (λ g. is_path g.path) b.regs) sound.reg_paths).1 e)

  fields_are : Each IsPortalPort (flat_map (field_ports b.views) (enumerate_from 0 b.fields))
  fields_are = Each-flat_map IsPortalPort (field_ports b.views) (enumerate_from 0 b.fields)
      (Each-numbered_all (λ e. Each IsPortalPort (field_ports b.views e)) b.fields
      (λ k f e.
      let s = (Each-from_zero (FieldIsSoundIn b) b.fields k f sound.fields e).alone in
      let p = field_path k f e in
      Each-append IsPortalPort (map input (field_pins b.views (k, f))) (map output (field_outlets (k, f)))
      (inputs_are (field_pins b.views (k, f)) (field_portals b.views views_named k f p s)) (outputs_are (field_outlets (k, f)) (field_outlet_portals k f p s))))

  regs_are : Each IsPortalPort (map output (flat_map reg_outlets (enumerate_from 0 b.regs)))
  regs_are = outputs_are (flat_map reg_outlets (enumerate_from 0 b.regs))
      (Each-flat_map IsPortalOutlet reg_outlets (enumerate_from 0 b.regs) (Each-numbered_all (λ e. Each IsPortalOutlet (reg_outlets e)) b.regs (λ k r e. reg_outlet_portals k r (reg_path k r e))))

  block_portals : Each IsPortalPort (block_ports b)
  block_portals =
      let root = map input (signal_pins true b.signals) in
      let tree = map input (signal_pins false b.signals) in
      let fields = flat_map (field_ports b.views) (enumerate_from 0 b.fields) in
      let aliases = map input (flat_map view_pins (filter (λ v. v.alias) b.views)) in
      let regs = map output (flat_map reg_outlets (enumerate_from 0 b.regs)) in
      Each-append IsPortalPort (root ++ tree ++ fields ++ aliases) regs
      (Each-append IsPortalPort (root ++ tree ++ fields) aliases
      (Each-append IsPortalPort (root ++ tree) fields
      (Each-append IsPortalPort root tree
      (inputs_are (signal_pins true b.signals) (signal_portals true b.signals sound.signals)) (inputs_are (signal_pins false b.signals) (signal_portals false b.signals sound.signals)))
      fields_are)
      (inputs_are (flat_map view_pins (filter (λ v. v.alias) b.views)) (passing_views b.views (λ v. v.alias) views_named)))
      regs_are

from_portal : (p : Port) → IsPortalPort p → IsPort p
from_portal p h = record { named = h.named; wide = h.wide; clocked = λ t. absurd (let q : true ≡ false = sym t ∙ h.other in cc) }

-- the ports of a block may be laid behind those of any bus
pub block_ports_are : (b : Block) → IsSound b → Each IsPort (block_ports b)
block_ports_are b sound = Each-weaker IsPortalPort IsPort from_portal (block_ports b) (block_portals b sound)

-- a port of a bus
pub bus_port : (p : Port) → is_net_name p.name ≡ true → 0 < p.width → p.width ≤ 32 → (bytes_eq p.name clock ≡ true → p.width ≡ 1) → IsPort p
bus_port p named some low clocked = record { named = named; wide = (some, omega (arith, low)); clocked = clocked }
