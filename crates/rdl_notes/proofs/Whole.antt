-- All notes of a tree are those of its source.
use Rattle.std.proofs.Common.{◌≡◌, ◌∙◌, ℕ, List, map, flat_map, Option, Some, slice_get, sym, ap, subst}
use Rattle.block_effects.specs.Notes.{AllSaid}
use Rattle.rdl_tree.specs.declared.node.Elab.{Elab}
use Rattle.rdl_tree.specs.declared.node.Node.{out-Node}
use Rattle.rdl_values.specs.Elaborated.{nodes_of, top_name}
use Rattle.rdl_values.specs.Elaboration.{IsClean}
use Rattle.rdl_values.specs.Instances.{Instance, nodes, top_of}
use Rattle.rdl_values.specs.Top.{top_use_of}
use Rattle.rdl_values.proofs.Clean.{same_nodes, same_tops}
use Rattle.rdl_layers.specs.Fields.{fields_of}
use Rattle.rdl_rules.specs.Numbers.{all_signals, registers}
use Rattle.encodings.specs.Encodings.{Enumerations}
use Rattle.rdl_encodings.specs.Encoded.{source_encodings}
use Rattle.rdl_notes.specs.Entries.{entries_said}
use Rattle.rdl_notes.specs.Notes.{groups_of, note_of, note_of_top, notes_of}
use Rattle.rdl_notes.proofs.Top.{top-here}

-- The notes are made of the nodes of the tree, the first of the top's node, and the last of these enumerations.
pub record AreMade (e p : Elab) (es : Enumerations) (a : AllSaid) : Type 0 where
  pub top_ : (n : Instance) → slice_get (nodes_of p) (out-Node e.top.now).id ≡ Some n → a.top ≡ note_of n
  pub regs_ : a.regs ≡ map note_of (registers (nodes_of p))
  pub views_ : a.views ≡ flat_map (λ r. map note_of (fields_of r)) (registers (nodes_of p))
  pub signals_ : a.signals ≡ map note_of (all_signals (nodes_of p))
  pub groups_ : a.groups ≡ groups_of (nodes_of p)
  pub enums_ : a.enums ≡ map (λ x. entries_said e.source.now x.place) es.list

-- where the tree of the settings is the tree
module _ (e : Elab) (clean : IsClean e) (es : Enumerations) (a : AllSaid) (made : AreMade e e es a) where
  top-is : a.top ≡ note_of_top (top_of (Some (top_name e)) e.source.now)
  top-is = let t = top-here e clean in made.top_ t.n t.here ∙ ap note_of_top (sym t.is)

  pub notes-are : (wanted : Option (List ℕ)) → top_use_of wanted e.source.now ≡ top_use_of (Some (top_name e)) e.source.now → es ≡ source_encodings wanted e.source.now → a ≡ notes_of wanted e.source.now
  notes-are wanted same encoded =
      let tops = sym (same_tops wanted (Some (top_name e)) e.source.now same) in
      let all = sym (same_nodes wanted (Some (top_name e)) e.source.now same) in
      let top : a.top ≡ note_of_top (top_of wanted e.source.now) = top-is ∙ ap note_of_top tops in
      let regs : a.regs ≡ map note_of (registers (nodes wanted e.source.now)) = made.regs_ ∙ ap (λ ns. map note_of (registers ns)) all in
      let views : a.views ≡ flat_map (λ r. map note_of (fields_of r)) (registers (nodes wanted e.source.now)) = made.views_ ∙ ap (λ ns. flat_map (λ r. map note_of (fields_of r)) (registers ns)) all in
      let signals : a.signals ≡ map note_of (all_signals (nodes wanted e.source.now)) = made.signals_ ∙ ap (λ ns. map note_of (all_signals ns)) all in
      let groups : a.groups ≡ groups_of (nodes wanted e.source.now) = made.groups_ ∙ ap groups_of all in
      let enums : a.enums ≡ map (λ x. entries_said e.source.now x.place) (source_encodings wanted e.source.now).list = made.enums_ ∙ ap (λ xs. map (λ x. entries_said e.source.now x.place) xs.list) encoded in
      (λ i. record { top = top i; regs = regs i; views = views i; signals = signals i; groups = groups i; enums = enums i })

pub notes-of-props : (e p : Elab) → p ≡ e → IsClean e → (es : Enumerations) (a : AllSaid) → AreMade e p es a → (wanted : Option (List ℕ)) → top_use_of wanted e.source.now ≡ top_use_of (Some (top_name e)) e.source.now → es ≡ source_encodings wanted e.source.now → a ≡ notes_of wanted e.source.now
notes-of-props e p same clean es a made = notes-are e clean es a (subst (λ q. AreMade e q es a) same made)
