-- What is read of a register, of a container and of an instance's text is what the definitions say.
use Rattle.std.specs.List.{list_any}
use Rattle.std.proofs.Common.{◌≡◌, ◌∙◌, Bool, true, false, not, cond, ◌&&◌, ◌||◌, List, [], ◌∷◌, length, option_to_list, nat_lt, refl, sym, ap}
use Rattle.rdl_base.specs.declared.keyword.Keyword.{Keyword}
use Rattle.rdl_base.specs.declared.keyword.Keyword.TheVariants as word
use Rattle.rdl_tree.specs.declared.item.Inst.{Inst}
use Rattle.rdl_tree.specs.declared.item.Kind.{Kind}
use Rattle.rdl_tree.specs.declared.item.Kind.TheVariants as kind
use Rattle.rdl_props.specs.declared.prop.Prop.TheVariants as prop
use Rattle.rdl_values.specs.Instances.{Instance, kind_of}
use Rattle.rdl_values.specs.Values.{Around}
use Rattle.rdl_layers.specs.Fields.{fields_of, has_on_read, reads, writes}
use Rattle.rdl_layers.specs.Forms.{Meaning, unset, flag, number, text, named, intr, hard, enum_of, reference}
use Rattle.rdl_layers.specs.Settings.{setting}
use Rattle.rdl_layout.specs.declared.extent.Side.TheVariants.{Reads, Writes, Other}
use Rattle.rdl_layout.specs.declared.part.Mode.{Mode}
use Rattle.rdl_layout.specs.declared.part.Part.{Part}
use Rattle.rdl_addr.specs.Modes as modes
use Rattle.rdl_addr.specs.Modes.{mode_by}
use Rattle.rdl_addr.specs.TextReadings.{IsGiven, numbers_in}
use Rattle.rdl_addr.specs.Uses.{register_side}
use Rattle.rdl_addr.specs.Layout as layout
use Rattle.rdl_addr.specs.Layout.{Group, mode_in}
use Rattle.rdl_addr.specs.Parts.{IsPartOf, mode_of}
use Rattle.rdl_addr.specs.Registers.{side_of}
use Rattle.rdl_addr.specs.Rules as rule
use Rattle.rdl_addr.specs.Texts.{IsText}

pub any-or : {X : Type 0} (p q : X → Bool) (xs : List X) → list_any (λ x. p x || q x) xs ≡ list_any p xs || list_any q xs
any-or p q [] = refl
any-or p q (x ∷ xs) = ap (λ b. (p x || q x) || b) (any-or p q xs) ∙ swap (p x) (q x) (list_any p xs) (list_any q xs)
  where
    swap : (a b c d : Bool) → (a || b) || (c || d) ≡ (a || c) || (b || d)
    swap true b c d = refl
    swap false true true d = refl
    swap false true false d = refl
    swap false false c d = refl

-- a register's side, from what software does with some field of it
pub one-side : (n : Instance) → register_side n ≡ side_of (rule.side_of n)
one-side n =
    ap (λ b. cond (list_any reads (fields_of n) && not (list_any writes (fields_of n))) Reads (cond (list_any writes (fields_of n) && not b) Writes Other)) (sym (any-or reads has_on_read (fields_of n)))
    ∙ through (rule.is_read_only n) (rule.is_write_only n)
  where
    through : (a b : Bool) → cond a Reads (cond b Writes Other) ≡ side_of (cond a rule.reads_alone (cond b rule.writes_alone rule.other))
    through true b = refl
    through false true = refl
    through false false = refl

named-mode : (w : Keyword) → mode_of (modes.mode_set (named w)) ≡ layout.mode_named w
named-mode word.Compact = refl
named-mode word.Fullalign = refl
named-mode _ = refl

set-mode : (m : Meaning) → mode_of (modes.mode_set m) ≡ layout.mode_set m
set-mode unset = refl
set-mode (flag b) = refl
set-mode (number n) = refl
set-mode (text t) = refl
set-mode (named w) = named-mode w
set-mode (intr e) = refl
set-mode (hard b) = refl
set-mode (enum_of n s) = refl
set-mode (reference p i s q) = refl

-- the mode by a kind, as the definition has it
by-kind : layout.Mode → Kind → Meaning → layout.Mode
by-kind outer kind.Addrmap m = layout.mode_set m
by-kind outer _ m = outer

same-kind : (outer : Mode) (k : Kind) (m : Meaning) → mode_of (mode_by outer k m) ≡ by-kind (mode_of outer) k m
unfolding by-kind
same-kind outer kind.Addrmap m = set-mode m
same-kind outer kind.Regfile m = refl
same-kind outer kind.Reg m = refl
same-kind outer kind.Field m = refl
same-kind outer kind.Signal m = refl

in-kind : (outer : layout.Mode) (n : Instance) (k : Kind) → kind_of n ≡ k → mode_in outer n ≡ by-kind outer k (setting n prop.Addressing)
unfolding by-kind
in-kind outer n kind.Addrmap e = rw e refl
in-kind outer n kind.Regfile e = rw e refl
in-kind outer n kind.Reg e = rw e refl
in-kind outer n kind.Field e = rw e refl
in-kind outer n kind.Signal e = rw e refl

pub one-mode : (outer : Mode) (n : Instance) → mode_of (mode_by outer (kind_of n) (setting n prop.Addressing)) ≡ mode_in (mode_of outer) n
one-mode outer n = same-kind outer (kind_of n) (setting n prop.Addressing) ∙ sym (in-kind (mode_of outer) n (kind_of n) refl)

pub one-part : (p : Part) (env : Around) (i : Inst) (g : Group) → IsGiven p env i → IsText i env g.first → p.others ≡ length g.others → p.size ≡ g.size → p.access ≡ g.access → IsPartOf p g
one-part p env i g given by count bytes width = record {
  count = count;
  bytes = bytes;
  width = width;
  at_ = given.at_ ∙ (λ j. numbers_in (sym by.visible j) (option_to_list (sym by.form j).at));
  stride_ = given.stride_ ∙ (λ j. numbers_in (sym by.visible j) (option_to_list (sym by.form j).stride));
  align_ = given.align_ ∙ (λ j. numbers_in (sym by.visible j) (option_to_list (sym by.form j).align));
  array = given.array ∙ ap (λ es. nat_lt 0 (length es)) (sym by.dims);
}
