-- The parts of a module that was parsed, as those of its tree.
use Rattle.std.proofs.Common.{◌≡◌, ℕ, suc, ◌+◌, Option, List, [], ◌∷◌, ◌++◌, length, map, refl, ap, ◌∙◌, arith, length-append}
use Rattle.std.proofs.lemmas.List.{length-map}
use Rattle.rb_base.specs.declared.ports.Port.{Port}
use Rattle.rb_base.specs.declared.place.Place.{Place}
use Rattle.rb_grammar.specs.Spelling.{At}
use Rattle.v_design.specs.Lexemes.{Token}
use Rattle.v_design.specs.Tree.{Tree, Statement, range_tokens}
use Rattle.v_design.specs.WellFormed.{nets, port_net, decl_net}
use Rattle.v_design.specs.declared.design.Decl.{Decl}
use Rattle.v_design.specs.declared.design.Stmt.{Stmt}
use Rattle.v_syntax.specs.Tokens.{place_at}
use Rattle.v_syntax.specs.Syntax.{AreStatements, IsSyntax, declared_places, decls_from, names_from}
use Rattle.v_syntax.specs.declared.parsed.Event.{Event}
use Rattle.v_syntax.specs.declared.parsed.Parsed.{Parsed}
use Rattle.v_check.specs.Drivers.{AreDrivers, AreNumbers}
use Rattle.v_check.specs.Nets.{declared_nets, net_seen, nets_seen, numbers}
use Rattle.v_check.specs.declared.nets.Net.{Net as NetOf}
use Rattle.v_check.proofs.Looping.{same-count}
use Rattle.plain_lemmas.proofs.Lists.{get-within}

pub nets-tree : (ts : List (At Token)) (x : Parsed) (t : Tree) (ns : List NetOf) (ports : List Port) (decls : List Decl) → IsSyntax ts x t → ports ≡ x.ports.items → decls ≡ x.decls.items → nets_seen ns ≡ declared_nets ports decls → nets_seen ns ≡ nets t
nets-tree ts x t ns ports decls syn p d h = h ∙ (ap (λ a. declared_nets a decls) (p ∙ syn.ports) ∙ ap (declared_nets t.ports) (d ∙ syn.decls))

length-names : (k : ℕ) (ws : List ℕ) → length (names_from k ws) ≡ length ws
length-names k [] = refl
length-names k (w ∷ ws) = let h = length-names (k + 3 + length (range_tokens w)) ws in omega (arith, h)

pub places-count : (ts : List (At Token)) (x : Parsed) (t : Tree) (ns : List NetOf) (places : List Place) → IsSyntax ts x t → nets_seen ns ≡ nets t → places ≡ x.declared.items → length ns ≡ length places
places-count ts x t ns places syn is at =
    let ports = map (λ p. p.width) t.ports in
    let decls = map (λ d. d.width) t.decls in
    let front = names_from 3 ports in
    let back = names_from (decls_from t) decls in
    let a : length (nets_seen ns) ≡ length (nets t) = ap length is in
    let b : length (numbers places) ≡ length (declared_places t ts) = ap (λ p. length (numbers p)) at ∙ ap length syn.declared in
    let c = length-map ns net_seen in
    let d = length-map places (λ p. p.0) in
    let e = length-append (map port_net t.ports) (map decl_net t.decls) in
    let f = length-map t.ports port_net in
    let g = length-map t.decls decl_net in
    let h = length-map (front ++ back) (place_at ts) in
    let i = length-append front back in
    let j = length-names 3 ports in
    let k = length-names (decls_from t) decls in
    let l = length-map t.ports (λ p. p.width) in
    let m = length-map t.decls (λ d. d.width) in
    omega (arith, a, b, c, d, e, f, g, h, i, j, k, l, m)

pub events-count : (xs : List Stmt) (es : List Event) (ts : List Statement) → AreStatements xs es ts → length xs ≡ length es
events-count [] [] [] h = refl
events-count [] [] (t ∷ ts) h = absurd h
events-count [] (e ∷ es) ts h = absurd h
events-count (x ∷ xs) [] ts h = absurd h
events-count (x ∷ xs) (e ∷ es) [] h = absurd h
events-count (x ∷ xs) (e ∷ es) (t ∷ ts) h = ap suc (events-count xs es ts h.1)

pub numbers-low : (drivers : List ℕ → Option ℕ) (xs : List Stmt) (es : List Event) (ts : List Statement) → AreStatements xs es ts → AreDrivers drivers ts → AreNumbers drivers (length xs)
numbers-low drivers xs es ts are d n i e =
    let (s, at, own) = d.at n i e in
    let l = get-within ts i s at in
    let c = same-count xs es ts are in
    omega (arith, l, c)
