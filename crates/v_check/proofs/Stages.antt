-- What the stages of the judgement of a module find.
use Rattle.std.proofs.Common.{◌≡◌, ℕ, Bool, true, false, Option, None, List, length, refl, ap, sym, ◌∙◌, subst}
use Rattle.rb_base.specs.declared.ports.Port.{Port}
use Rattle.rb_base.specs.declared.place.Place.{Place}
use Rattle.rb_grammar.specs.Spelling.{At}
use Rattle.v_design.specs.Lexemes.{Token}
use Rattle.v_design.specs.Tree.{Tree}
use Rattle.v_design.specs.WellFormed.{distinct, names, nets}
use Rattle.v_design.specs.declared.design.Decl.{Decl}
use Rattle.v_design.specs.declared.design.Stmt.{Stmt}
use Rattle.v_syntax.specs.Faulty.{Twice, Undeclared, Driver, Width, Loop, Faulty}
use Rattle.v_syntax.specs.Syntax.{AreStatements, IsSyntax, declared_places, statement_places}
use Rattle.v_syntax.specs.declared.parsed.Event.{Event}
use Rattle.v_syntax.specs.declared.parsed.Parsed.{Parsed}
use Rattle.v_check.specs.Drivers.{AreDrivers, AreNumbers, IsMisdriven, IsUndriven, are_declared}
use Rattle.v_check.specs.Found.{either_found, Finds, Stands}
use Rattle.v_check.specs.Loops.{IsLooping}
use Rattle.v_check.specs.Nets.{IsTwice, IsUndeclared, declared_nets, nets_seen, numbers, token_places, width_in}
use Rattle.v_check.specs.Sizes.{IsMisfit, stmt_places}
use Rattle.v_check.specs.declared.nets.Net.{Net as NetOf}
use Rattle.v_check.proofs.Capping.{same-widths, all-narrow, unfit-found}
use Rattle.v_check.proofs.Faults.{Lacks, twice-found, undeclared-found, driver-found, width-found, loop-found}
use Rattle.v_check.proofs.Forming.{declared-from, none-undeclared, once-from}
use Rattle.v_check.proofs.Parts.{nets-tree, numbers-low, places-count}

-- these nets, statements and places of declared names stand for those of a tree
pub record AreParts (ts : List (At Token)) (x : Parsed) (t : Tree) (ns : List NetOf) (stmts : List Stmt) (events : List Event) (places : List Place) : Type 0 where
  pub syntax : IsSyntax ts x t
  pub nets : nets_seen ns ≡ nets t
  pub are : AreStatements stmts events t.stmts
  pub starts : stmt_places stmts ≡ statement_places t ts
  pub declared : numbers places ≡ declared_places t ts
  pub count : length ns ≡ length places

pub parts-of : (ts : List (At Token)) (x : Parsed) (t : Tree) (ports : List Port) (decls : List Decl) (listed ns : List NetOf) (stmts : List Stmt) (events : List Event) (places : List Place) → IsSyntax ts x t
    → ports ≡ x.ports.items → decls ≡ x.decls.items → nets_seen listed ≡ declared_nets ports decls → ns ≡ listed → stmts ≡ x.stmts.items → events ≡ x.events.items → places ≡ x.declared.items
    → AreParts ts x t ns stmts events places
parts-of ts x t ports decls listed ns stmts events places syn p d seen is stmts_is events_is places_is =
    let tree = nets-tree ts x t ns ports decls syn p d (ap nets_seen is ∙ seen) in
    record {
      syntax = syn;
      nets = tree;
      are = subst (λ xs. AreStatements xs events t.stmts) (sym stmts_is) (subst (λ es. AreStatements x.stmts.items es t.stmts) (sym events_is) syn.stmts);
      starts = ap stmt_places stmts_is ∙ syn.starts;
      declared = ap numbers places_is ∙ syn.declared;
      count = places-count ts x t ns places syn tree places_is;
    }

module _ (ts : List (At Token)) (x : Parsed) (t : Tree) (ns : List NetOf) (stmts : List Stmt) (events : List Event) (places : List Place) (p : AreParts ts x t ns stmts events places) where
  pub found-twice : (r : Option Place) → Finds (Stands (IsTwice (names (nets_seen ns))) (numbers places)) r → Finds (Faulty t ts Twice) r
  found-twice r h = twice-found t ts (nets_seen ns) (numbers places) r p.nets p.declared h

  pub found-once : Lacks t ts Twice → distinct (names (nets_seen ns)) ≡ true
  found-once none = ap (λ ms. distinct (names ms)) p.nets ∙ once-from t ts none

  -- each name is seen to be declared, or a name that is not is looked for
  pub found-undeclared : (declared : Bool) (before : ℕ) (r : Option Place) → before ≡ x.before → (declared ≡ true → are_declared (nets_seen ns) t.stmts ≡ true) → (declared ≡ true → r ≡ None)
      → (declared ≡ false → Finds (Stands (IsUndeclared (names (nets_seen ns)) before ts) (token_places ts)) r) → Finds (Faulty t ts Undeclared) r
  found-undeclared true before r is seen none found =
      subst (Finds (Faulty t ts Undeclared)) (sym (none refl)) (none-undeclared t ts p.syntax.tokens (ap (λ ms. are_declared ms t.stmts) (sym p.nets) ∙ seen refl))
  found-undeclared false before r is seen none found = undeclared-found t ts (nets_seen ns) before r p.nets (is ∙ p.syntax.before) (found refl)

  pub found-declared : Lacks t ts Undeclared → are_declared (nets_seen ns) t.stmts ≡ true
  found-declared none = ap (λ ms. are_declared ms t.stmts) p.nets ∙ declared-from t ts p.syntax.tokens none

  pub found-driver : (driver : List ℕ → Option ℕ) (r q : Option Place) → AreDrivers driver t.stmts → Finds (Stands (IsMisdriven (nets_seen ns) t.stmts) (stmt_places stmts)) r
      → Finds (Stands (IsUndriven (nets_seen ns) driver) (numbers places)) q → Finds (Faulty t ts Driver) (either_found r q)
  found-driver driver r q d h k = driver-found t ts driver (nets_seen ns) (nets_seen ns) (stmt_places stmts) (numbers places) r q d p.nets p.nets p.starts p.declared h k

  pub found-width : (r : Option Place) → Finds (Stands (IsMisfit (width_in (nets_seen ns)) stmts) (stmt_places stmts)) r → Finds (Faulty t ts Width) r
  found-width r h =
      width-found t ts (stmt_places stmts) r p.starts
      (unfit-found t ts (width_in (nets_seen ns)) stmts events (stmt_places stmts) r p.are (same-widths t (nets_seen ns) p.nets) (all-narrow t p.syntax.shaped) h)

  pub found-loop : (r : Option Place) → Finds (Stands (IsLooping t.stmts) (stmt_places stmts)) r → Finds (Faulty t ts Loop) r
  found-loop r h = loop-found t ts (stmt_places stmts) r p.starts h

  pub found-numbers : (driver : List ℕ → Option ℕ) → AreDrivers driver t.stmts → AreNumbers driver (length stmts)
  found-numbers driver d = numbers-low driver stmts events t.stmts p.are d
