-- No bracket stands in many others.
use Rattle.std.proofs.Common.{◌≡◌, ℕ, ◌+◌, ◌-◌, ◌==◌, Bool, true, false, if◌then◌else◌, Option, Some, None, List, [], ◌∷◌, ◌++◌, refl, ap, sym, ◌∙◌, append_assoc}
use Rattle.rb_base.specs.declared.ports.Dir.{Dir}
use Rattle.rb_base.specs.declared.ports.Dir.TheVariants.{In, Out}
use Rattle.rb_base.specs.declared.ports.Port.{Port}
use Rattle.v_design.specs.declared.design.Decl.{Decl}
use Rattle.v_design.specs.declared.design.VTwo.TheVariants as two
use Rattle.v_design.specs.Lexemes.{Token, Word, Name, Number}
use Rattle.v_design.specs.Tree.{Statement, Assign, Term, Plain, Joined, Whole, Bit, Part, Sized, quoted, dir_word, decl_word, term_tokens, range_tokens, port_tokens, ports_tokens, decls_tokens, stmt_tokens, stmts_tokens, tokens_of, nests}
use Rattle.rtl_net.specs.Net.{Net, width_in}
use Rattle.rtl_net.specs.declared.node.NetExpr.{NetExpr}
use Rattle.rtl_net.specs.declared.node.NetExpr.TheVariants as exprs
use Rattle.rtl_net.specs.declared.node.NetNode.{NetNode}
use Rattle.rtl_net.specs.declared.node.NetNode.TheVariants.{Input, Register, Wire}
use Rattle.rtl_net.specs.declared.node.NetReset.{NetReset}
use Rattle.rtl_net.specs.declared.node.NetReset.TheVariants as resets
use Rattle.rtl_net.specs.declared.node.Id.{Id}
use Rattle.rtl_net.specs.declared.node.Occupant.{Occupant}
use Rattle.rtl_net.specs.declared.node.Occupant.TheVariants as takes
use Rattle.v_printer.specs.Module.{numbered, node_name, selected, term_of, wire_name, wire_stmt, shown_stmt, output_stmt, block, register_stmt, decls, stmts, tree_of}

-- these tokens open as many brackets as they close
abbrev Balances : List Token → Type 0
Balances ts = (rest : List Token) → nests 0 (ts ++ rest) ≡ nests 0 rest

joined : (xs ys : List Token) → Balances xs → Balances ys → Balances (xs ++ ys)
joined xs ys p q rest = ap (nests 0) (append_assoc xs ys rest) ∙ (p (ys ++ rest) ∙ q rest)

selected_balances : (w : ℕ) (n : List ℕ) (hi lo : ℕ) → Balances (term_tokens (selected w n hi lo))
selected_balances w n hi lo rest = go (w == 1) (hi == lo)
  where
    go : (b d : Bool) → nests 0 (term_tokens (if b then Joined two.And (Whole n) (Sized 1 1) else Plain (if d then Bit n hi else Part n hi lo)) ++ rest) ≡ nests 0 rest
    go true d = refl
    go false true = refl
    go false false = refl

expr_balances : (net : Net) (e : NetExpr) → Balances (term_tokens (term_of net e))
expr_balances net (exprs.Const w x) rest = refl
expr_balances net (exprs.Part a hi lo) rest = selected_balances (width_in net a) (node_name net.nodes a.0) hi lo rest
expr_balances net (exprs.Cat a b) rest = refl
expr_balances net (exprs.Not a) rest = refl
expr_balances net (exprs.All a) rest = refl
expr_balances net (exprs.Any a) rest = refl
expr_balances net (exprs.Odd a) rest = refl
expr_balances net (exprs.Add a b) rest = refl
expr_balances net (exprs.Sub a b) rest = refl
expr_balances net (exprs.And a b) rest = refl
expr_balances net (exprs.Or a b) rest = refl
expr_balances net (exprs.Xor a b) rest = refl
expr_balances net (exprs.Eq a b) rest = refl
expr_balances net (exprs.Lt a b) rest = refl
expr_balances net (exprs.Pick c a b) rest = refl

assign_balances : (to : List ℕ) (e : Term) → Balances (term_tokens e) → Balances (stmt_tokens (Assign to e))
assign_balances to e h rest = joined (term_tokens e) (quoted ";" ∷ []) h (λ more. refl) rest

block_balances : (net : Net) (name : List ℕ) (w : ℕ) (reset : NetReset) (next : Id) → Balances (stmt_tokens (block net name w reset next))
block_balances net name w resets.None next rest = refl
block_balances net name w (resets.Async pin true value) next rest = refl
block_balances net name w (resets.Async pin false value) next rest = refl

more_balance : (xs ys : List Statement) → Balances (stmts_tokens xs) → Balances (stmts_tokens ys) → Balances (stmts_tokens (xs ++ ys))
more_balance [] ys p q rest = q rest
more_balance (x ∷ xs) ys p q rest = whole xs ys p q rest
  where
    flat : (zs : List Statement) → stmts_tokens (zs ++ ys) ≡ stmts_tokens zs ++ stmts_tokens ys
    flat [] = refl
    flat (z ∷ zs) = ap (λ l. stmt_tokens z ++ l) (flat zs) ∙ sym (append_assoc (stmt_tokens z) (stmts_tokens zs) (stmts_tokens ys))

    whole : (xs ys' : List Statement) → Balances (stmts_tokens (x ∷ xs)) → Balances (stmts_tokens ys) → (rest : List Token) → nests 0 (stmts_tokens (x ∷ (xs ++ ys)) ++ rest) ≡ nests 0 rest
    whole xs ys' p q rest =
        ap (λ l. nests 0 ((stmt_tokens x ++ l) ++ rest)) (flat xs)
        ∙ (ap (λ l. nests 0 (l ++ rest)) (sym (append_assoc (stmt_tokens x) (stmts_tokens xs) (stmts_tokens ys)))
        ∙ joined (stmts_tokens (x ∷ xs)) (stmts_tokens ys) p q rest)

single_balances : (s : Statement) → Balances (stmt_tokens s) → Balances (stmts_tokens (s ∷ []))
single_balances s h = joined (stmt_tokens s) [] h (λ rest. refl)

numbered_balances : {X : Type 0} (f : ℕ → X → List Statement) → ((k : ℕ) (x : X) → Balances (stmts_tokens (f k x))) → (k : ℕ) (xs : List X) → Balances (stmts_tokens (numbered f k xs))
numbered_balances f h k [] rest = refl
numbered_balances f h k (x ∷ xs) rest = more_balance (f k x) (numbered f (k + 1) xs) (h k x) (numbered_balances f h (k + 1) xs) rest

wire_balances : (net : Net) (k : ℕ) (n : NetNode) → Balances (stmts_tokens (wire_stmt net k n))
wire_balances net k (Input name w) rest = refl
wire_balances net k (Register name w reset next) rest = refl
wire_balances net k (Wire e) rest = single_balances (Assign (wire_name k) (term_of net e)) (assign_balances (wire_name k) (term_of net e) (expr_balances net e)) rest

shown_balances : (net : Net) (name : List ℕ) (t : Option Occupant) → Balances (stmts_tokens (shown_stmt net name t))
shown_balances net name None rest = refl
shown_balances net name (Some (takes.Input id)) rest = refl
shown_balances net name (Some (takes.Output from)) rest = refl

register_balances : (net : Net) (k : ℕ) (n : NetNode) → Balances (stmts_tokens (register_stmt net k n))
register_balances net k (Input name w) rest = refl
register_balances net k (Register name w reset None) rest = refl
register_balances net k (Register name w reset (Some next)) rest = single_balances (block net name w reset next) (block_balances net name w reset next) rest
register_balances net k (Wire e) rest = refl

range_balances : (w : ℕ) → Balances (range_tokens w)
range_balances w rest = go (w == 1)
  where
    go : (b : Bool) → nests 0 ((if b then [] else quoted "[" ∷ Number (w - 1) ∷ quoted ":" ∷ Number 0 ∷ quoted "]" ∷ []) ++ rest) ≡ nests 0 rest
    go true = refl
    go false = refl

dir_balances : (d : Dir) (rest : List Token) → nests 0 (Word (dir_word d) ∷ rest) ≡ nests 0 rest
dir_balances In rest = refl
dir_balances Out rest = refl

decl_balances : (b : Bool) (rest : List Token) → nests 0 (Word (decl_word b) ∷ rest) ≡ nests 0 rest
decl_balances true rest = refl
decl_balances false rest = refl

decls_balance : (ds : List Decl) → Balances (decls_tokens ds)
decls_balance [] rest = refl
decls_balance (d ∷ ds) rest =
    decl_balances d.reg ((range_tokens d.width ++ (Name d.name ∷ quoted ";" ∷ decls_tokens ds)) ++ rest) ∙ joined (range_tokens d.width) (Name d.name ∷ quoted ";" ∷ decls_tokens ds) (range_balances d.width) (λ more. decls_balance ds more) rest

-- within the brackets of the ports
abbrev Inside : List Token → Type 0
Inside ts = (rest : List Token) → nests 1 (ts ++ rest) ≡ nests 1 rest

inside_joined : (xs ys : List Token) → Inside xs → Inside ys → Inside (xs ++ ys)
inside_joined xs ys p q rest = ap (nests 1) (append_assoc xs ys rest) ∙ (p (ys ++ rest) ∙ q rest)

range_inside : (w : ℕ) → Inside (range_tokens w)
range_inside w rest = go (w == 1)
  where
    go : (b : Bool) → nests 1 ((if b then [] else quoted "[" ∷ Number (w - 1) ∷ quoted ":" ∷ Number 0 ∷ quoted "]" ∷ []) ++ rest) ≡ nests 1 rest
    go true = refl
    go false = refl

dir_inside : (d : Dir) (rest : List Token) → nests 1 (Word (dir_word d) ∷ rest) ≡ nests 1 rest
dir_inside In rest = refl
dir_inside Out rest = refl

port_inside : (p : Port) → Inside (port_tokens p)
port_inside p rest = dir_inside p.dir ((range_tokens p.width ++ Name p.name ∷ []) ++ rest) ∙ inside_joined (range_tokens p.width) (Name p.name ∷ []) (range_inside p.width) (λ more. refl) rest

ports_inside : (ps : List Port) → Inside (ports_tokens ps)
ports_inside [] rest = refl
ports_inside (p ∷ []) rest = port_inside p rest
ports_inside (p ∷ q ∷ ps) rest = inside_joined (port_tokens p) (quoted "," ∷ ports_tokens (q ∷ ps)) (port_inside p) (λ more. ports_inside (q ∷ ps) more) rest

pub tree_nests : (net : Net) → nests 0 (tokens_of (tree_of net)) ≡ true
tree_nests net =
    let ss : Balances (stmts_tokens (stmts net))
    = more_balance (numbered (wire_stmt net) 0 net.nodes) (numbered (output_stmt net) 0 net.seats ++ numbered (register_stmt net) 0 net.nodes) (numbered_balances (wire_stmt net) (wire_balances net) 0 net.nodes)
    (more_balance (numbered (output_stmt net) 0 net.seats) (numbered (register_stmt net) 0 net.nodes) (numbered_balances (output_stmt net) (λ k s. shown_balances net s.name s.taken) 0 net.seats)
    (numbered_balances (register_stmt net) (register_balances net) 0 net.nodes)) in
    let rest = stmts_tokens (stmts net) ++ quoted "endmodule" ∷ [] in
    ports_inside (tree_of net).ports (quoted ")" ∷ quoted ";" ∷ (decls_tokens (decls net) ++ rest)) ∙ (decls_balance (decls net) rest ∙ ss (quoted "endmodule" ∷ []))
