-- When a module tree is well-formed (this project's rules).
use Rattle.std.specs.Bool.{beq}
use Rattle.std.specs.List.{AllByRecursion, list_all, list_any}
use Rattle.std.specs.Str.{bytes_eq}
use Rattle.std.specs.Prelude.{ℕ, ◌<◌, Bool, true, false, not, ◌&&◌, ◌||◌, ◌==◌, IsTrue, List, [], ◌∷◌, ◌++◌, map}
use Rattle.v_design.specs.Lexemes.{among}
use Rattle.v_design.specs.Expr.{Expr, Widths, nets_of, width_of, is_sized}
use Rattle.v_design.specs.Tree.{Tree, Statement, Assign, Clocked, Resettable}
use Rattle.v_design.specs.Design.{expr_of, module_of, widths}
use Rattle.rb_base.specs.declared.ports.Dir.{Dir}
use Rattle.rb_base.specs.declared.ports.Dir.TheVariants.{In, Out}
use Rattle.rb_base.specs.declared.ports.Port.{Port}
use Rattle.v_design.specs.declared.design.Decl.{Decl}
pub use Rattle.v_design.specs.Design.{clock}

-- what drives a net: an input what is outside, a wire or an output an assignment, and a register a clocked block
pub data Kind : Type 0 where
  Given Wired Kept : Kind

-- a declared net
pub record Net : Type 0 where
  pub name : List ℕ
  pub kind : Kind
  pub width : ℕ

-- the kind of a port, and of a declaration
abbrev pub port_kind : Dir → Kind
port_kind In = Given
port_kind Out = Wired

abbrev pub decl_kind : Bool → Kind
decl_kind true = Kept
decl_kind false = Wired

-- a port and a declaration as nets
abbrev pub port_net : Port → Net
port_net p = record { name = p.name; kind = port_kind p.dir; width = p.width }

abbrev pub decl_net : Decl → Net
decl_net d = record { name = d.name; kind = decl_kind d.reg; width = d.width }

-- the declared nets, in order
abbrev pub nets : Tree → List Net
nets t = map port_net t.ports ++ map decl_net t.decls

-- the names of nets
abbrev pub names : List Net → List (List ℕ)
names ns = map (λ n. n.name) ns

-- no name stands twice
abbrev pub distinct : List (List ℕ) → Bool
distinct [] = true
distinct (n ∷ ns) = not (among ns n) && distinct ns

-- the kinds are one
abbrev pub same_kind : Kind → Kind → Bool
same_kind Given Given = true
same_kind Wired Wired = true
same_kind Kept Kept = true
same_kind _ _ = false

-- a net of this name and kind is declared
abbrev pub has : List Net → Kind → List ℕ → Bool
has ns kind n = list_any (λ d. bytes_eq d.name n && same_kind d.kind kind) ns

-- an input of one bit has this name
abbrev pub is_pin : List Net → List ℕ → Bool
is_pin ns n = list_any (λ d. bytes_eq d.name n && same_kind d.kind Given && d.width == 1) ns

-- the net that a statement drives
abbrev pub target : Statement → List ℕ
target (Assign to e) = to
target (Clocked c to e) = to
target (Resettable c low reset negated test to width value again e) = to

-- the expression of a statement
abbrev pub expr : Statement → Expr
expr (Assign to e) = expr_of e
expr (Clocked c to e) = expr_of e
expr (Resettable c low reset negated test to width value again e) = expr_of e

-- the names in a statement
abbrev pub used : Statement → List (List ℕ)
used (Assign to e) = to ∷ nets_of (expr_of e)
used (Clocked c to e) = c ∷ to ∷ nets_of (expr_of e)
used (Resettable c low reset negated test to width value again e) = c ∷ reset ∷ test ∷ to ∷ again ∷ nets_of (expr_of e)

-- each of these names is declared
abbrev pub all_among : List (List ℕ) → List (List ℕ) → Bool
all_among declared ns = list_all (among declared) ns

-- the one-bit input PCLK
abbrev pub is_clock : List Net → List ℕ → Bool
is_clock ns n = is_pin ns n && bytes_eq n clock

-- a one-bit input other than PCLK
abbrev pub is_reset : List Net → List ℕ → Bool
is_reset ns n = is_pin ns n && not (bytes_eq n clock)

-- the expression does not read the clock
abbrev pub reads_no_clock : Statement → Bool
reads_no_clock s = not (among (nets_of (expr s)) clock)

-- An assignment drives a wire or an output. A clocked block drives a register at the clock. Its reset is an
-- input, its test names that input, negated where the edge is the falling one, and both branches drive one net.
abbrev pub drives_its_kind : List Net → Statement → Bool
drives_its_kind ns (Assign to e) = has ns Wired to
drives_its_kind ns (Clocked c to e) = has ns Kept to && is_clock ns c
drives_its_kind ns (Resettable c low reset negated test to width value again e) = has ns Kept to && is_clock ns c
    && is_reset ns reset && bytes_eq test reset && beq negated low && bytes_eq again to

-- a statement drives a net of its kind, and reads no clock
abbrev pub drives_well : List Net → Statement → Bool
drives_well ns s = drives_its_kind ns s && reads_no_clock s

-- a reset's constant has this width
abbrev pub resets_to_width : ℕ → Statement → Bool
resets_to_width w (Resettable c low reset negated test to width value again e) = w == width
resets_to_width w _ = true

-- both sides have one width, and so has a reset's constant
abbrev pub fits_well : Widths → Statement → Bool
fits_well ws s = is_sized ws (expr s) && ws (target s) == width_of ws (expr s) && resets_to_width (ws (target s)) s

-- each net but an input is the target of a statement
abbrev pub driven : List Net → List (List ℕ) → Bool
driven ns targets = list_all (λ n. same_kind n.kind Given || among targets n.name) ns

-- each of these nets has a rank below r
abbrev pub AllBelow : (List ℕ → ℕ) → List (List ℕ) → ℕ → Type 0
AllBelow rank ns r = AllByRecursion (λ n. rank n < r) ns

-- of an assignment, each net in its expression has a rank below that of the net assigned
abbrev pub RisesAlong : (List ℕ → ℕ) → Statement → Type 0
RisesAlong rank (Assign to e) = AllBelow rank (nets_of (expr_of e)) (rank to)
RisesAlong rank _ = Unit {0}

-- the rank rises along each assignment
abbrev pub Rises : (List ℕ → ℕ) → List Statement → Type 0
Rises rank ss = AllByRecursion (RisesAlong rank) ss

-- No name is declared twice, each name in a statement is declared, each statement drives a net of its kind, no
-- net has two drivers and each but an input has one, widths agree, and no assignment leads back to its net.
pub record IsWellFormed (t : Tree) : Type 0 where
  pub once : IsTrue (distinct (names (nets t)))
  pub declared : IsTrue (list_all (λ s. all_among (names (nets t)) (used s)) t.stmts)
  pub drives : IsTrue (list_all (drives_well (nets t)) t.stmts)
  pub single : IsTrue (distinct (map target t.stmts))
  pub driven_all : IsTrue (driven (nets t) (map target t.stmts))
  pub fits : IsTrue (list_all (fits_well (widths (module_of t))) t.stmts)
  pub rank : List ℕ → ℕ
  pub rises : Rises rank t.stmts
