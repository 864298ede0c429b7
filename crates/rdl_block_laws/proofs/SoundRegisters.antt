-- The lines of registers.
use Rattle.std.proofs.Common.{◌≡◌, ◌∙◌, ℕ, ◌==◌, Bool, true, false, not, ◌&&◌, ◌||◌, List, [], ◌∷◌, map, filter, Option, None, Some, is_some, slice_get, refl, sym, ap, subst}
use Rattle.std.specs.List.{AllByRecursion, enumerate_from, list_any}
use Rattle.plain_lemmas.proofs.Lists.{get-mapped as got, list_any-alike as any-alike, map-filter, map-map}
use Rattle.rdl_props.specs.Table.{takes_of}
use Rattle.rdl_props.specs.declared.form.Form.TheVariants as form
use Rattle.rdl_props.specs.declared.prop.Prop.{Prop}
use Rattle.rdl_props.specs.declared.prop.Prop.TheVariants as prop
use Rattle.rdl_tree.specs.declared.item.Kind.TheVariants as kind
use Rattle.rdl_tree.specs.declared.item.Source.{Source}
use Rattle.rdl_values.specs.Instances.{Instance, nodes}
use Rattle.rdl_values.specs.Lineages.{Lineage, lineages}
use Rattle.rdl_nodes.proofs.Lineages.{all_nodes}
use Rattle.rdl_nodes.proofs.Members.{In, each-in, in-flat, in-map, place-in}
use Rattle.rdl_layers.specs.Fields.{fields_of, has, has_one_of, is_a, is_alias, is_given}
use Rattle.rdl_layers.specs.Fields as layers
use Rattle.rdl_layers.specs.Formed.{IsOfForm}
use Rattle.rdl_layers.specs.Forms.{Meaning, unset, flag, number, text, named, intr, hard, enum_of, reference}
use Rattle.rdl_layers.specs.Settings.{setting}
use Rattle.rb_model.specs.declared.block.Block.{Block}
use Rattle.rb_model.specs.declared.block.Reg.{Reg}
use Rattle.rb_model.specs.declared.kinds.Mask.{Mask}
use Rattle.rb_model.specs.declared.kinds.Mask.TheVariants as mask
use Rattle.rb_model.specs.declared.kinds.RefItem.{RefItem}
use Rattle.rb_model.specs.Items.{is_interrupt, is_on}
use Rattle.rb_model.specs.References.{Each}
use Rattle.rb_model.specs.Sound.{RegIsSound}
use Rattle.rb_model.proofs.Eachs.{Each-numbered_all}
use Rattle.rdl_rules.specs.Block.{IsBlockOf, fields, halts, reg_of}
use Rattle.rdl_rules.specs.Feeds.{item_at, mask_at}
use Rattle.rdl_rules.specs.Fields.{latch_of}
use Rattle.rdl_rules.specs.Numbers.{all_fields, primaries, registers}
use Rattle.rdl_block_laws.proofs.Having.{in-back}
use Rattle.rdl_sound_laws.specs.Faultless.{Leads}
use Rattle.rdl_sound_laws.proofs.Alone.{latch-is}
use Rattle.rdl_block_laws.proofs.Numbering.{fields-at}

abbrev pub Formed : Type 0
Formed = (n : Instance) (p : Prop) → IsOfForm (takes_of p) (setting n p)

-- Interrupts.

pub latches : Formed → (f : Instance) → is_interrupt (latch_of f) ≡ layers.is_interrupt f
latches formed f = latch-is (has prop.Sticky f) (setting f prop.Intr) (formed f prop.Intr)

-- Enabled or masked for halt.

-- a setting that may only be a reference is given just where it names an item
item-given : (all : List Lineage) (n : Instance) (p : Prop) → Leads all n → IsOfForm form.Refer (setting n p) → is_some (item_at all n p) ≡ has p n
item-given all n p leads formed = go (setting n p) refl formed
  where
    go : (m : Meaning) → setting n p ≡ m → IsOfForm form.Refer m → is_some (item_at all n p) ≡ has p n
    go (reference path item scope place) e h = leads.to_item p path item scope place e ∙ sym (ap is_given e)
    go unset e h = rw e refl
    go (flag b) e h = absurd h
    go (number k) e h = absurd h
    go (text t) e h = absurd h
    go (named w) e h = absurd h
    go (intr x) e h = absurd h
    go (hard b) e h = absurd h
    go (enum_of x scope) e h = absurd h

abbrev mask-of : Option RefItem → Option RefItem → Mask
mask-of (Some r) m = mask.Enable r
mask-of None (Some r) = mask.Mask r
mask-of None None = mask.Off

on-some : (o m : Option RefItem) → is_on (mask-of o m) ≡ (is_some o || is_some m)
on-some (Some r) m = refl
on-some None (Some r) = refl
on-some None None = refl

or-nothing : (a b : Bool) → (a || b) ≡ (a || (b || false))
or-nothing true b = refl
or-nothing false true = refl
or-nothing false false = refl

pub halts-on : (all : List Lineage) (f : Instance) → Formed → Leads all f → is_on (mask_at all f prop.Haltenable prop.Haltmask) ≡ has_one_of (prop.Haltenable ∷ prop.Haltmask ∷ []) f
halts-on all f formed leads = on-some (item_at all f prop.Haltenable) (item_at all f prop.Haltmask)
    ∙ ap (λ a. a || is_some (item_at all f prop.Haltmask)) (item-given all f prop.Haltenable leads (formed f prop.Haltenable))
    ∙ ap (λ b. has prop.Haltenable f || b) (item-given all f prop.Haltmask leads (formed f prop.Haltmask))
    ∙ or-nothing (has prop.Haltenable f) (has prop.Haltmask f)

-- Registers.

and-grouped : (a b c : Bool) → (a && (b && c)) ≡ ((a && b) && c)
and-grouped true b c = refl
and-grouped false b c = refl

and-twice : (a b : Bool) → (a && b) ≡ (a && (a && b))
and-twice true b = refl
and-twice false b = refl

module _ (wanted : Option (List ℕ)) (s : Source) (formed : Formed) (leads : AllByRecursion (Leads (lineages wanted s)) (all_fields (nodes wanted s))) where
  are-registers : map (λ l. l.node) (filter (λ (l : Lineage). is_a kind.Reg l.node) (lineages wanted s)) ≡ registers (nodes wanted s)
  are-registers = map-filter (λ (l : Lineage). l.node) (is_a kind.Reg) (lineages wanted s) ∙ ap (filter (is_a kind.Reg)) (all_nodes wanted s)

  of-field : (l : Lineage) → In (filter (λ (x : Lineage). is_a kind.Reg x.node) (lineages wanted s)) l → is_alias l.node ≡ false → (f : Instance) → In (fields_of l.node) f → Leads (lineages wanted s) f
  of-field l i own f h =
      let reg : In (registers (nodes wanted s)) l.node = subst (λ xs. In xs l.node) are-registers (in-map (λ x. x.node) (filter (λ (x : Lineage). is_a kind.Reg x.node) (lineages wanted s)) l i) in
      let primary : In (primaries (nodes wanted s)) l.node = in-back (λ x. not (is_alias x)) (registers (nodes wanted s)) l.node reg (ap not own) in
      each-in (Leads (lineages wanted s)) (all_fields (nodes wanted s)) f leads (in-flat fields_of (primaries (nodes wanted s)) l.node f primary h)

  reg-sound : (b : Block) → b.fields ≡ fields s (lineages wanted s) → (k : ℕ) (l : Lineage) → slice_get (filter (λ (x : Lineage). is_a kind.Reg x.node) (lineages wanted s)) k ≡ Some l → RegIsSound b (k, reg_of l.node)
  reg-sound b e k l at =
      let i = place-in (filter (λ (x : Lineage). is_a kind.Reg x.node) (lineages wanted s)) k l at in
      let lines = fields-at s (lineages wanted s) (λ f. is_interrupt f.latch) layers.is_interrupt k (filter (λ (x : Lineage). is_a kind.Reg x.node) (lineages wanted s)) l at (λ own r f h. latches formed f) in
      let stops = fields-at s (lineages wanted s) (λ f. is_interrupt f.latch && is_on f.halt) halts k (filter (λ (x : Lineage). is_a kind.Reg x.node) (lineages wanted s)) l at (λ own r f h. ap (λ a. a && is_on (mask_at (lineages wanted s) f prop.Haltenable prop.Haltmask)) (latches formed f) ∙ ap (λ a. layers.is_interrupt f && a) (halts-on (lineages wanted s) f formed (of-field l i own f h))) in
      record {
        intr = and-twice (not (is_alias l.node)) (list_any layers.is_interrupt (fields_of l.node)) ∙ ap (λ a. not (is_alias l.node) && a) (sym lines ∙ ap (list_any (λ f. f.reg == k && is_interrupt f.latch)) (sym e));
        halt = and-twice (not (is_alias l.node)) (list_any halts (fields_of l.node)) ∙ ap (λ a. not (is_alias l.node) && a) (sym stops ∙ ap (list_any (λ f. f.reg == k && (is_interrupt f.latch && is_on f.halt))) (sym e) ∙ any-alike (λ f. f.reg == k && (is_interrupt f.latch && is_on f.halt)) (λ f. f.reg == k && is_interrupt f.latch && is_on f.halt) b.fields (λ f. and-grouped (f.reg == k) (is_interrupt f.latch) (is_on f.halt)));
      }

  pub all-sound : (waits : ℕ) (b : Block) → IsBlockOf wanted s waits b → Each (RegIsSound b) (enumerate_from 0 b.regs)
  all-sound waits b is = Each-numbered_all (RegIsSound b) b.regs (λ k r at. one k r (ap (λ xs. slice_get xs k) (sym regs) ∙ at))
    where
      regs : b.regs ≡ map (λ (l : Lineage). reg_of l.node) (filter (λ (x : Lineage). is_a kind.Reg x.node) (lineages wanted s))
      regs = is.regs ∙ ap (map reg_of) (sym are-registers) ∙ map-map reg_of (λ (l : Lineage). l.node) (filter (λ (x : Lineage). is_a kind.Reg x.node) (lineages wanted s))

      one : (k : ℕ) (r : Reg) → slice_get (map (λ (l : Lineage). reg_of l.node) (filter (λ (x : Lineage). is_a kind.Reg x.node) (lineages wanted s))) k ≡ Some r → RegIsSound b (k, r)
      one k r e = let q = got (λ (l : Lineage). reg_of l.node) (filter (λ (x : Lineage). is_a kind.Reg x.node) (lineages wanted s)) k r e in subst (λ x. RegIsSound b (k, x)) q.2 (reg-sound b is.fields_ k q.0 q.1)
