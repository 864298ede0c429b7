-- Sources that show what the instances of a source are, and how the rules on them fail.
use Rattle.std.proofs.Common.{ℕ, zero, suc, ◌+◌, List, [], ◌∷◌, map, replicate, None, Some, codes, true}
use Rattle.rdl_tree.specs.declared.expr.Expr.{Expr}
use Rattle.rdl_tree.specs.declared.expr.Expr.TheVariants as expr
use Rattle.rdl_tree.specs.declared.expr.Op.TheVariants as op
use Rattle.rdl_tree.specs.declared.item.Item.{Item}
use Rattle.rdl_tree.specs.declared.item.Item.TheVariants as item
use Rattle.rdl_tree.specs.declared.item.Kind.TheVariants as kind
use Rattle.rdl_tree.specs.declared.item.PType.TheVariants as ptype
use Rattle.rdl_tree.specs.declared.item.Param.{Param}
use Rattle.rdl_tree.specs.declared.item.Source.{Source}
use Rattle.rdl_base.specs.declared.keyword.Keyword.TheVariants as keyword
use Rattle.rdl_values.specs.Instances.{upto}
use Rattle.rdl_verdict_laws.proofs.WorkedTrees.{lend, at, name, step_to, path_of, word, assign, inst, insts_of, component, source}

-- (no byte)
abbrev pub empty_source : Source
empty_source = source []

-- addrmap one { reg { field { sw=rw; hw=r; } f[32] = 32'h5; } a @0x0; };
abbrev pub one : Source
one = source (
    item.Def (component kind.Addrmap (Some (name (codes "one") 8)) [] 8 (
    item.Def (component kind.Reg None [] 14 (
    item.Def (component kind.Field None [] 20 (
    item.Local (assign (name (codes "sw") 28) None (word keyword.Rw) 28) ∷
    item.Local (assign (name (codes "hw") 35) None (word keyword.R) 35) ∷ []) (Some (insts_of [] ((record (inst (name (codes "f") 43)) { dims = lend ((expr.Number 32 (at 45)) ∷ []); reset = Some (lend (expr.Number 5 (at 51))) }) ∷ [])))) ∷ []) (Some (insts_of [] ((record (inst (name (codes "a") 60)) { at = Some (lend (expr.Number 0 (at 63))) }) ∷ [])))) ∷ []) None) ∷ [])

-- addrmap v { reg { field {} f[4 / 0]; } a; };
abbrev pub division_in_a_width : Source
division_in_a_width = source (
    item.Def (component kind.Addrmap (Some (name (codes "v") 8)) [] 8 (
    item.Def (component kind.Reg None [] 12 (
    item.Def (component kind.Field None [] 18 [] (Some (insts_of [] ((record (inst (name (codes "f") 27)) { dims = lend ((expr.Binary op.Div (lend (expr.Number 4 (at 29))) (lend (expr.Number 0 (at 33))) (at 31)) ∷ []) }) ∷ [])))) ∷ []) (Some (insts_of [] ((inst (name (codes "a") 39)) ∷ [])))) ∷ []) None) ∷ [])

-- addrmap b { reg { field { sw=r; sw=w; bogus; } f; } a; T x; field {} g; reg { field {} f; } a; };
abbrev pub three_failures : Source
three_failures = source (
    item.Def (component kind.Addrmap (Some (name (codes "b") 8)) [] 8 (
    item.Def (component kind.Reg None [] 12 (
    item.Def (component kind.Field None [] 18 (
    item.Local (assign (name (codes "sw") 26) None (word keyword.R) 26) ∷
    item.Local (assign (name (codes "sw") 32) None (word keyword.W) 32) ∷
    item.Local (assign (name (codes "bogus") 38) None None 38) ∷ []) (Some (insts_of [] ((inst (name (codes "f") 47)) ∷ [])))) ∷ []) (Some (insts_of [] ((inst (name (codes "a") 52)) ∷ [])))) ∷
    item.Made None (name (codes "T") 55) (insts_of [] ((inst (name (codes "x") 57)) ∷ [])) ∷
    item.Def (component kind.Field None [] 60 [] (Some (insts_of [] ((inst (name (codes "g") 69)) ∷ [])))) ∷
    item.Def (component kind.Reg None [] 72 (
    item.Def (component kind.Field None [] 78 [] (Some (insts_of [] ((inst (name (codes "f") 87)) ∷ [])))) ∷ []) (Some (insts_of [] ((inst (name (codes "a") 92)) ∷ [])))) ∷ []) None) ∷ [])

-- enum e { A; B = A2::Q; C; }; enum A2 { Q = 7; }; reg R #(longint W = 3, boolean z) { field {} f[W]; }; addrmap p { R #(.W(1 + 2 * 3), .z(2)) a[2][2]; R b; R #(.z(true), .y(1)) c; };
abbrev pub parameters_and_arrays : Source
parameters_and_arrays = source (
    item.EnumDef (name (codes "e") 5) (lend ((record { name = (name (codes "A") 9); value = None; sets = lend [] }) ∷ (record { name = (name (codes "B") 12); value = (Some (expr.EntryOf (name (codes "A2") 16) (name (codes "Q") 20))); sets = lend [] }) ∷ (record { name = (name (codes "C") 23); value = None; sets = lend [] }) ∷ [])) ∷
    item.EnumDef (name (codes "A2") 34) (lend ((record { name = (name (codes "Q") 39); value = (Some (expr.Number 7 (at 43))); sets = lend [] }) ∷ [])) ∷
    item.Def (component kind.Reg (Some (name (codes "R") 53)) ((record { name = (name (codes "W") 65); ptype = ptype.Number; default = (Some (expr.Number 3 (at 69))) }) ∷ (record { name = (name (codes "z") 80); ptype = ptype.Flag; default = None }) ∷ []) 53 (
    item.Def (component kind.Field None [] 85 [] (Some (insts_of [] ((record (inst (name (codes "f") 94)) { dims = lend ((expr.Ref (path_of ((step_to (name (codes "W") 96) []) ∷ [])) None) ∷ []) }) ∷ [])))) ∷ []) None) ∷
    item.Def (component kind.Addrmap (Some (name (codes "p") 111)) [] 111 (
    item.Made None (name (codes "R") 115) (insts_of ((record { name = (name (codes "W") 120); value = (expr.Binary op.Add (lend (expr.Number 1 (at 122))) (lend (expr.Binary op.Mul (lend (expr.Number 2 (at 126))) (lend (expr.Number 3 (at 130))) (at 128))) (at 124)) }) ∷ (record { name = (name (codes "z") 135); value = (expr.Number 2 (at 137)) }) ∷ []) ((record (inst (name (codes "a") 141)) { dims = lend ((expr.Number 2 (at 143)) ∷ (expr.Number 2 (at 146)) ∷ []) }) ∷ [])) ∷
    item.Made None (name (codes "R") 150) (insts_of [] ((inst (name (codes "b") 152)) ∷ [])) ∷
    item.Made None (name (codes "R") 155) (insts_of ((record { name = (name (codes "z") 160); value = (expr.Flag true (at 162)) }) ∷ (record { name = (name (codes "y") 170); value = (expr.Number 1 (at 172)) }) ∷ []) ((inst (name (codes "c") 176)) ∷ [])) ∷ []) None) ∷ [])

-- addrmap u { T x; }; reg Q #(longint a, longint a) { field {} f[1 / 0]; enum e { A; A; }; }; addrmap n { reg R { field {} f[1 / 0]; T x; addrmap {} m; reg R {}; reg R {}; }; };
abbrev pub unused_definitions : Source
unused_definitions = source (
    item.Def (component kind.Addrmap (Some (name (codes "u") 8)) [] 8 (
    item.Made None (name (codes "T") 12) (insts_of [] ((inst (name (codes "x") 14)) ∷ [])) ∷ []) None) ∷
    item.Def (component kind.Reg (Some (name (codes "Q") 24)) ((record { name = (name (codes "a") 36); ptype = ptype.Number; default = None }) ∷ (record { name = (name (codes "a") 47); ptype = ptype.Number; default = None }) ∷ []) 24 (
    item.Def (component kind.Field None [] 52 [] (Some (insts_of [] ((record (inst (name (codes "f") 61)) { dims = lend ((expr.Binary op.Div (lend (expr.Number 1 (at 63))) (lend (expr.Number 0 (at 67))) (at 65)) ∷ []) }) ∷ [])))) ∷
    item.EnumDef (name (codes "e") 76) (lend ((record { name = (name (codes "A") 80); value = None; sets = lend [] }) ∷ (record { name = (name (codes "A") 83); value = None; sets = lend [] }) ∷ [])) ∷ []) None) ∷
    item.Def (component kind.Addrmap (Some (name (codes "n") 100)) [] 100 (
    item.Def (component kind.Reg (Some (name (codes "R") 108)) [] 108 (
    item.Def (component kind.Field None [] 112 [] (Some (insts_of [] ((record (inst (name (codes "f") 121)) { dims = lend ((expr.Binary op.Div (lend (expr.Number 1 (at 123))) (lend (expr.Number 0 (at 127))) (at 125)) ∷ []) }) ∷ [])))) ∷
    item.Made None (name (codes "T") 131) (insts_of [] ((inst (name (codes "x") 133)) ∷ [])) ∷
    item.Def (component kind.Addrmap None [] 136 [] (Some (insts_of [] ((inst (name (codes "m") 147)) ∷ [])))) ∷
    item.Def (component kind.Reg (Some (name (codes "R") 154)) [] 154 [] None) ∷
    item.Def (component kind.Reg (Some (name (codes "R") 164)) [] 164 [] None) ∷ []) None) ∷ []) None) ∷ [])

-- addrmap t #(longint n) { T x; reg {} r[1 / 0]; }; enum e { A = 1 / 0; };
abbrev pub no_longer_judged : Source
no_longer_judged = source (
    item.Def (component kind.Addrmap (Some (name (codes "t") 8)) ((record { name = (name (codes "n") 20); ptype = ptype.Number; default = None }) ∷ []) 8 (
    item.Made None (name (codes "T") 25) (insts_of [] ((inst (name (codes "x") 27)) ∷ [])) ∷
    item.Def (component kind.Reg None [] 30 [] (Some (insts_of [] ((record (inst (name (codes "r") 37)) { dims = lend ((expr.Binary op.Div (lend (expr.Number 1 (at 39))) (lend (expr.Number 0 (at 43))) (at 41)) ∷ []) }) ∷ [])))) ∷ []) None) ∷
    item.EnumDef (name (codes "e") 55) (lend ((record { name = (name (codes "A") 59); value = (Some (expr.Binary op.Div (lend (expr.Number 1 (at 63))) (lend (expr.Number 0 (at 67))) (at 65))); sets = lend [] }) ∷ [])) ∷ [])

-- enum A { X; }; reg A { field {} f; }; enum A { Y; }; addrmap t { reg B {}; enum B { Z; }; regfile B {} g; regfile { reg B {}; } h; reg {} B; };
abbrev pub names_twice : Source
names_twice = source (
    item.EnumDef (name (codes "A") 5) (lend ((record { name = (name (codes "X") 9); value = None; sets = lend [] }) ∷ [])) ∷
    item.Def (component kind.Reg (Some (name (codes "A") 19)) [] 19 (
    item.Def (component kind.Field None [] 23 [] (Some (insts_of [] ((inst (name (codes "f") 32)) ∷ [])))) ∷ []) None) ∷
    item.EnumDef (name (codes "A") 43) (lend ((record { name = (name (codes "Y") 47); value = None; sets = lend [] }) ∷ [])) ∷
    item.Def (component kind.Addrmap (Some (name (codes "t") 61)) [] 61 (
    item.Def (component kind.Reg (Some (name (codes "B") 69)) [] 69 [] None) ∷
    item.EnumDef (name (codes "B") 80) (lend ((record { name = (name (codes "Z") 84); value = None; sets = lend [] }) ∷ [])) ∷
    item.Def (component kind.Regfile (Some (name (codes "B") 98)) [] 98 [] (Some (insts_of [] ((inst (name (codes "g") 103)) ∷ [])))) ∷
    item.Def (component kind.Regfile None [] 106 (
    item.Def (component kind.Reg (Some (name (codes "B") 120)) [] 120 [] None) ∷ []) (Some (insts_of [] ((inst (name (codes "h") 128)) ∷ [])))) ∷
    item.Def (component kind.Reg None [] 131 [] (Some (insts_of [] ((inst (name (codes "B") 138)) ∷ [])))) ∷ []) None) ∷ [])

-- addrmap t { reg A { field {} f; }; reg A { field {} g; } a; A b; };
abbrev pub first_of_a_name : Source
first_of_a_name = source (
    item.Def (component kind.Addrmap (Some (name (codes "t") 8)) [] 8 (
    item.Def (component kind.Reg (Some (name (codes "A") 16)) [] 16 (
    item.Def (component kind.Field None [] 20 [] (Some (insts_of [] ((inst (name (codes "f") 29)) ∷ [])))) ∷ []) None) ∷
    item.Def (component kind.Reg (Some (name (codes "A") 39)) [] 39 (
    item.Def (component kind.Field None [] 43 [] (Some (insts_of [] ((inst (name (codes "g") 52)) ∷ [])))) ∷ []) (Some (insts_of [] ((inst (name (codes "a") 57)) ∷ [])))) ∷
    item.Made None (name (codes "A") 60) (insts_of [] ((inst (name (codes "b") 62)) ∷ [])) ∷ []) None) ∷ [])

-- default sw = r; sw = r; x->sw = r; reg {} r; signal {} g; signal { field {} f; signal {} s; } h; enum e { A; }; addrmap t { field {} a; regfile { addrmap {} a; field {} b; signal {} c; reg { addrmap {} a; regfile {} b; reg {} c; signal {} d; field { reg {} a; field {} b; signal {} c; } e; } d; regfile {} e; } b; addrmap {} c; signal {} d; reg {} e; };
abbrev pub what_holds_what : Source
what_holds_what = source (
    item.Default (assign (name (codes "sw") 8) None (word keyword.R) 0) ∷
    item.Local (assign (name (codes "sw") 16) None (word keyword.R) 16) ∷
    item.Dynamic (path_of ((step_to (name (codes "x") 24) []) ∷ [])) (assign (name (codes "sw") 27) None (word keyword.R) 24) ∷
    item.Def (component kind.Reg None [] 35 [] (Some (insts_of [] ((inst (name (codes "r") 42)) ∷ [])))) ∷
    item.Def (component kind.Signal None [] 45 [] (Some (insts_of [] ((inst (name (codes "g") 55)) ∷ [])))) ∷
    item.Def (component kind.Signal None [] 58 (
    item.Def (component kind.Field None [] 67 [] (Some (insts_of [] ((inst (name (codes "f") 76)) ∷ [])))) ∷
    item.Def (component kind.Signal None [] 79 [] (Some (insts_of [] ((inst (name (codes "s") 89)) ∷ [])))) ∷ []) (Some (insts_of [] ((inst (name (codes "h") 94)) ∷ [])))) ∷
    item.EnumDef (name (codes "e") 102) (lend ((record { name = (name (codes "A") 106); value = None; sets = lend [] }) ∷ [])) ∷
    item.Def (component kind.Addrmap (Some (name (codes "t") 120)) [] 120 (
    item.Def (component kind.Field None [] 124 [] (Some (insts_of [] ((inst (name (codes "a") 133)) ∷ [])))) ∷
    item.Def (component kind.Regfile None [] 136 (
    item.Def (component kind.Addrmap None [] 146 [] (Some (insts_of [] ((inst (name (codes "a") 157)) ∷ [])))) ∷
    item.Def (component kind.Field None [] 160 [] (Some (insts_of [] ((inst (name (codes "b") 169)) ∷ [])))) ∷
    item.Def (component kind.Signal None [] 172 [] (Some (insts_of [] ((inst (name (codes "c") 182)) ∷ [])))) ∷
    item.Def (component kind.Reg None [] 185 (
    item.Def (component kind.Addrmap None [] 191 [] (Some (insts_of [] ((inst (name (codes "a") 202)) ∷ [])))) ∷
    item.Def (component kind.Regfile None [] 205 [] (Some (insts_of [] ((inst (name (codes "b") 216)) ∷ [])))) ∷
    item.Def (component kind.Reg None [] 219 [] (Some (insts_of [] ((inst (name (codes "c") 226)) ∷ [])))) ∷
    item.Def (component kind.Signal None [] 229 [] (Some (insts_of [] ((inst (name (codes "d") 239)) ∷ [])))) ∷
    item.Def (component kind.Field None [] 242 (
    item.Def (component kind.Reg None [] 250 [] (Some (insts_of [] ((inst (name (codes "a") 257)) ∷ [])))) ∷
    item.Def (component kind.Field None [] 260 [] (Some (insts_of [] ((inst (name (codes "b") 269)) ∷ [])))) ∷
    item.Def (component kind.Signal None [] 272 [] (Some (insts_of [] ((inst (name (codes "c") 282)) ∷ [])))) ∷ []) (Some (insts_of [] ((inst (name (codes "e") 287)) ∷ [])))) ∷ []) (Some (insts_of [] ((inst (name (codes "d") 292)) ∷ [])))) ∷
    item.Def (component kind.Regfile None [] 295 [] (Some (insts_of [] ((inst (name (codes "e") 306)) ∷ [])))) ∷ []) (Some (insts_of [] ((inst (name (codes "b") 311)) ∷ [])))) ∷
    item.Def (component kind.Addrmap None [] 314 [] (Some (insts_of [] ((inst (name (codes "c") 325)) ∷ [])))) ∷
    item.Def (component kind.Signal None [] 328 [] (Some (insts_of [] ((inst (name (codes "d") 338)) ∷ [])))) ∷
    item.Def (component kind.Reg None [] 341 [] (Some (insts_of [] ((inst (name (codes "e") 348)) ∷ [])))) ∷ []) None) ∷ [])

-- reg R #(longint w = 1 / 0, longint z) { field {} f[w]; }; addrmap t { R #(.w(1), .y(1 / 0), .w(1 / 0), .z(2)) a; R #(.w(2)) b; R #(.z(1 / 0)) c; };
abbrev pub bad_parameters : Source
bad_parameters = source (
    item.Def (component kind.Reg (Some (name (codes "R") 4)) ((record { name = (name (codes "w") 16); ptype = ptype.Number; default = (Some (expr.Binary op.Div (lend (expr.Number 1 (at 20))) (lend (expr.Number 0 (at 24))) (at 22))) }) ∷ (record { name = (name (codes "z") 35); ptype = ptype.Number; default = None }) ∷ []) 4 (
    item.Def (component kind.Field None [] 40 [] (Some (insts_of [] ((record (inst (name (codes "f") 49)) { dims = lend ((expr.Ref (path_of ((step_to (name (codes "w") 51) []) ∷ [])) None) ∷ []) }) ∷ [])))) ∷ []) None) ∷
    item.Def (component kind.Addrmap (Some (name (codes "t") 66)) [] 66 (
    item.Made None (name (codes "R") 70) (insts_of ((record { name = (name (codes "w") 75); value = (expr.Number 1 (at 77)) }) ∷ (record { name = (name (codes "y") 82); value = (expr.Binary op.Div (lend (expr.Number 1 (at 84))) (lend (expr.Number 0 (at 88))) (at 86)) }) ∷ (record { name = (name (codes "w") 93); value = (expr.Binary op.Div (lend (expr.Number 1 (at 95))) (lend (expr.Number 0 (at 99))) (at 97)) }) ∷ (record { name = (name (codes "z") 104); value = (expr.Number 2 (at 106)) }) ∷ []) ((inst (name (codes "a") 110)) ∷ [])) ∷
    item.Made None (name (codes "R") 113) (insts_of ((record { name = (name (codes "w") 118); value = (expr.Number 2 (at 120)) }) ∷ []) ((inst (name (codes "b") 124)) ∷ [])) ∷
    item.Made None (name (codes "R") 127) (insts_of ((record { name = (name (codes "z") 132); value = (expr.Binary op.Div (lend (expr.Number 1 (at 134))) (lend (expr.Number 0 (at 138))) (at 136)) }) ∷ []) ((inst (name (codes "c") 142)) ∷ [])) ∷ []) None) ∷ [])

-- reg D #(longint p = 1, longint p = 2) { field {} f; }; reg H #(longint p = 1 / 0, longint p = 2) { field {} f; }; addrmap t { D d; D e; H h; };
abbrev pub parameters_twice : Source
parameters_twice = source (
    item.Def (component kind.Reg (Some (name (codes "D") 4)) ((record { name = (name (codes "p") 16); ptype = ptype.Number; default = (Some (expr.Number 1 (at 20))) }) ∷ (record { name = (name (codes "p") 31); ptype = ptype.Number; default = (Some (expr.Number 2 (at 35))) }) ∷ []) 4 (
    item.Def (component kind.Field None [] 40 [] (Some (insts_of [] ((inst (name (codes "f") 49)) ∷ [])))) ∷ []) None) ∷
    item.Def (component kind.Reg (Some (name (codes "H") 59)) ((record { name = (name (codes "p") 71); ptype = ptype.Number; default = (Some (expr.Binary op.Div (lend (expr.Number 1 (at 75))) (lend (expr.Number 0 (at 79))) (at 77))) }) ∷ (record { name = (name (codes "p") 90); ptype = ptype.Number; default = (Some (expr.Number 2 (at 94))) }) ∷ []) 59 (
    item.Def (component kind.Field None [] 99 [] (Some (insts_of [] ((inst (name (codes "f") 108)) ∷ [])))) ∷ []) None) ∷
    item.Def (component kind.Addrmap (Some (name (codes "t") 122)) [] 122 (
    item.Made None (name (codes "D") 126) (insts_of [] ((inst (name (codes "d") 128)) ∷ [])) ∷
    item.Made None (name (codes "D") 131) (insts_of [] ((inst (name (codes "e") 133)) ∷ [])) ∷
    item.Made None (name (codes "H") 136) (insts_of [] ((inst (name (codes "h") 138)) ∷ [])) ∷ []) None) ∷ [])

-- reg N #(longint n) {}; reg B #(boolean b) {}; reg T #(string s) {}; addrmap t { N #(.n(true)) a; N #(.n("x")) b; B #(.b(2)) c; B #(.b(("x"))) d; T #(.s("x")) e; T #(.s(1 + 2)) f; };
abbrev pub types_of_parameters : Source
types_of_parameters = source (
    item.Def (component kind.Reg (Some (name (codes "N") 4)) ((record { name = (name (codes "n") 16); ptype = ptype.Number; default = None }) ∷ []) 4 [] None) ∷
    item.Def (component kind.Reg (Some (name (codes "B") 27)) ((record { name = (name (codes "b") 39); ptype = ptype.Flag; default = None }) ∷ []) 27 [] None) ∷
    item.Def (component kind.Reg (Some (name (codes "T") 50)) ((record { name = (name (codes "s") 61); ptype = ptype.Str; default = None }) ∷ []) 50 [] None) ∷
    item.Def (component kind.Addrmap (Some (name (codes "t") 76)) [] 76 (
    item.Made None (name (codes "N") 80) (insts_of ((record { name = (name (codes "n") 85); value = (expr.Flag true (at 87)) }) ∷ []) ((inst (name (codes "a") 94)) ∷ [])) ∷
    item.Made None (name (codes "N") 97) (insts_of ((record { name = (name (codes "n") 102); value = (expr.Str (lend (codes "x")) (at 104)) }) ∷ []) ((inst (name (codes "b") 110)) ∷ [])) ∷
    item.Made None (name (codes "B") 113) (insts_of ((record { name = (name (codes "b") 118); value = (expr.Number 2 (at 120)) }) ∷ []) ((inst (name (codes "c") 124)) ∷ [])) ∷
    item.Made None (name (codes "B") 127) (insts_of ((record { name = (name (codes "b") 132); value = (expr.Str (lend (codes "x")) (at 135)) }) ∷ []) ((inst (name (codes "d") 142)) ∷ [])) ∷
    item.Made None (name (codes "T") 145) (insts_of ((record { name = (name (codes "s") 150); value = (expr.Str (lend (codes "x")) (at 152)) }) ∷ []) ((inst (name (codes "e") 158)) ∷ [])) ∷
    item.Made None (name (codes "T") 161) (insts_of ((record { name = (name (codes "s") 166); value = (expr.Binary op.Add (lend (expr.Number 1 (at 168))) (lend (expr.Number 2 (at 172))) (at 170)) }) ∷ []) ((inst (name (codes "f") 176)) ∷ [])) ∷ []) None) ∷ [])

-- addrmap t { reg {} x; T #(.x(1 / 0)) y[1 / 0][0] = 1 / 0 @1 / 0 %= 0; T x; reg {} y; };
abbrev pub unknown_type : Source
unknown_type = source (
    item.Def (component kind.Addrmap (Some (name (codes "t") 8)) [] 8 (
    item.Def (component kind.Reg None [] 12 [] (Some (insts_of [] ((inst (name (codes "x") 19)) ∷ [])))) ∷
    item.Made None (name (codes "T") 22) (insts_of ((record { name = (name (codes "x") 27); value = (expr.Binary op.Div (lend (expr.Number 1 (at 29))) (lend (expr.Number 0 (at 33))) (at 31)) }) ∷ []) ((record (inst (name (codes "y") 37)) { dims = lend ((expr.Binary op.Div (lend (expr.Number 1 (at 39))) (lend (expr.Number 0 (at 43))) (at 41)) ∷ (expr.Number 0 (at 46)) ∷ []); reset = Some (lend (expr.Binary op.Div (lend (expr.Number 1 (at 51))) (lend (expr.Number 0 (at 55))) (at 53))); at = Some (lend (expr.Binary op.Div (lend (expr.Number 1 (at 58))) (lend (expr.Number 0 (at 62))) (at 60))); align = Some (lend (expr.Number 0 (at 67))) }) ∷ [])) ∷
    item.Made None (name (codes "T") 70) (insts_of [] ((inst (name (codes "x") 72)) ∷ [])) ∷
    item.Def (component kind.Reg None [] 75 [] (Some (insts_of [] ((inst (name (codes "y") 82)) ∷ [])))) ∷ []) None) ∷ [])

-- reg R { field {} f[0]; field {} g[1][2]; signal {} h[1][2]; signal {} i[0]; }; addrmap t { R a; R b[0]; R c[2][0]; R d[1][1][1][1][1][1][1][1][1]; R e[1][1][1][1][1][1][1][1]; R f[1 / 0][0]; };
abbrev pub bad_arrays : Source
bad_arrays = source (
    item.Def (component kind.Reg (Some (name (codes "R") 4)) [] 4 (
    item.Def (component kind.Field None [] 8 [] (Some (insts_of [] ((record (inst (name (codes "f") 17)) { dims = lend ((expr.Number 0 (at 19)) ∷ []) }) ∷ [])))) ∷
    item.Def (component kind.Field None [] 23 [] (Some (insts_of [] ((record (inst (name (codes "g") 32)) { dims = lend ((expr.Number 1 (at 34)) ∷ (expr.Number 2 (at 37)) ∷ []) }) ∷ [])))) ∷
    item.Def (component kind.Signal None [] 41 [] (Some (insts_of [] ((record (inst (name (codes "h") 51)) { dims = lend ((expr.Number 1 (at 53)) ∷ (expr.Number 2 (at 56)) ∷ []) }) ∷ [])))) ∷
    item.Def (component kind.Signal None [] 60 [] (Some (insts_of [] ((record (inst (name (codes "i") 70)) { dims = lend ((expr.Number 0 (at 72)) ∷ []) }) ∷ [])))) ∷ []) None) ∷
    item.Def (component kind.Addrmap (Some (name (codes "t") 87)) [] 87 (
    item.Made None (name (codes "R") 91) (insts_of [] ((inst (name (codes "a") 93)) ∷ [])) ∷
    item.Made None (name (codes "R") 96) (insts_of [] ((record (inst (name (codes "b") 98)) { dims = lend ((expr.Number 0 (at 100)) ∷ []) }) ∷ [])) ∷
    item.Made None (name (codes "R") 104) (insts_of [] ((record (inst (name (codes "c") 106)) { dims = lend ((expr.Number 2 (at 108)) ∷ (expr.Number 0 (at 111)) ∷ []) }) ∷ [])) ∷
    item.Made None (name (codes "R") 115) (insts_of [] ((record (inst (name (codes "d") 117)) { dims = lend ((expr.Number 1 (at 119)) ∷ (expr.Number 1 (at 122)) ∷ (expr.Number 1 (at 125)) ∷ (expr.Number 1 (at 128)) ∷ (expr.Number 1 (at 131)) ∷ (expr.Number 1 (at 134)) ∷ (expr.Number 1 (at 137)) ∷ (expr.Number 1 (at 140)) ∷ (expr.Number 1 (at 143)) ∷ []) }) ∷ [])) ∷
    item.Made None (name (codes "R") 147) (insts_of [] ((record (inst (name (codes "e") 149)) { dims = lend ((expr.Number 1 (at 151)) ∷ (expr.Number 1 (at 154)) ∷ (expr.Number 1 (at 157)) ∷ (expr.Number 1 (at 160)) ∷ (expr.Number 1 (at 163)) ∷ (expr.Number 1 (at 166)) ∷ (expr.Number 1 (at 169)) ∷ (expr.Number 1 (at 172)) ∷ []) }) ∷ [])) ∷
    item.Made None (name (codes "R") 176) (insts_of [] ((record (inst (name (codes "f") 178)) { dims = lend ((expr.Binary op.Div (lend (expr.Number 1 (at 180))) (lend (expr.Number 0 (at 184))) (at 182)) ∷ (expr.Number 0 (at 187)) ∷ []) }) ∷ [])) ∷ []) None) ∷ [])

-- addrmap t { reg {} a[3:0]; reg {} b = 1; reg { field {} a @0; field {} b += 4; field {} c[2] += 4; field {} d %= 4; signal {} e = 1; signal {} f[3:0]; signal {} g @0; field {} h[7:4] = 1; field {} i[2] = 1; } c; reg {} d @0 %= 4; reg {} e += 4; reg {} f[2] @0 += 4; reg {} g[1] += 4 %= 8; };
abbrev pub bad_forms : Source
bad_forms = source (
    item.Def (component kind.Addrmap (Some (name (codes "t") 8)) [] 8 (
    item.Def (component kind.Reg None [] 12 [] (Some (insts_of [] ((record (inst (name (codes "a") 19)) { range = (Some (lend ((expr.Number 3 (at 21)), (expr.Number 0 (at 23))))) }) ∷ [])))) ∷
    item.Def (component kind.Reg None [] 27 [] (Some (insts_of [] ((record (inst (name (codes "b") 34)) { reset = Some (lend (expr.Number 1 (at 38))) }) ∷ [])))) ∷
    item.Def (component kind.Reg None [] 41 (
    item.Def (component kind.Field None [] 47 [] (Some (insts_of [] ((record (inst (name (codes "a") 56)) { at = Some (lend (expr.Number 0 (at 59))) }) ∷ [])))) ∷
    item.Def (component kind.Field None [] 62 [] (Some (insts_of [] ((record (inst (name (codes "b") 71)) { stride = Some (lend (expr.Number 4 (at 76))) }) ∷ [])))) ∷
    item.Def (component kind.Field None [] 79 [] (Some (insts_of [] ((record (inst (name (codes "c") 88)) { dims = lend ((expr.Number 2 (at 90)) ∷ []); stride = Some (lend (expr.Number 4 (at 96))) }) ∷ [])))) ∷
    item.Def (component kind.Field None [] 99 [] (Some (insts_of [] ((record (inst (name (codes "d") 108)) { align = Some (lend (expr.Number 4 (at 113))) }) ∷ [])))) ∷
    item.Def (component kind.Signal None [] 116 [] (Some (insts_of [] ((record (inst (name (codes "e") 126)) { reset = Some (lend (expr.Number 1 (at 130))) }) ∷ [])))) ∷
    item.Def (component kind.Signal None [] 133 [] (Some (insts_of [] ((record (inst (name (codes "f") 143)) { range = (Some (lend ((expr.Number 3 (at 145)), (expr.Number 0 (at 147))))) }) ∷ [])))) ∷
    item.Def (component kind.Signal None [] 151 [] (Some (insts_of [] ((record (inst (name (codes "g") 161)) { at = Some (lend (expr.Number 0 (at 164))) }) ∷ [])))) ∷
    item.Def (component kind.Field None [] 167 [] (Some (insts_of [] ((record (inst (name (codes "h") 176)) { range = (Some (lend ((expr.Number 7 (at 178)), (expr.Number 4 (at 180))))); reset = Some (lend (expr.Number 1 (at 185))) }) ∷ [])))) ∷
    item.Def (component kind.Field None [] 188 [] (Some (insts_of [] ((record (inst (name (codes "i") 197)) { dims = lend ((expr.Number 2 (at 199)) ∷ []); reset = Some (lend (expr.Number 1 (at 204))) }) ∷ [])))) ∷ []) (Some (insts_of [] ((inst (name (codes "c") 209)) ∷ [])))) ∷
    item.Def (component kind.Reg None [] 212 [] (Some (insts_of [] ((record (inst (name (codes "d") 219)) { at = Some (lend (expr.Number 0 (at 222))); align = Some (lend (expr.Number 4 (at 227))) }) ∷ [])))) ∷
    item.Def (component kind.Reg None [] 230 [] (Some (insts_of [] ((record (inst (name (codes "e") 237)) { stride = Some (lend (expr.Number 4 (at 242))) }) ∷ [])))) ∷
    item.Def (component kind.Reg None [] 245 [] (Some (insts_of [] ((record (inst (name (codes "f") 252)) { dims = lend ((expr.Number 2 (at 254)) ∷ []); at = Some (lend (expr.Number 0 (at 258))); stride = Some (lend (expr.Number 4 (at 263))) }) ∷ [])))) ∷
    item.Def (component kind.Reg None [] 266 [] (Some (insts_of [] ((record (inst (name (codes "g") 273)) { dims = lend ((expr.Number 1 (at 275)) ∷ []); stride = Some (lend (expr.Number 4 (at 281))); align = Some (lend (expr.Number 8 (at 286))) }) ∷ [])))) ∷ []) None) ∷ [])

-- addrmap t { reg P { field {} f; }; regfile G { P a; }; alias q P a; alias p P b; P p; P v[1]; alias v P c; alias p P d; alias d P e; G g; alias g P h; alias p P i[1]; alias p G j; alias p P k, l; P m[3:0]; alias m P n; };
abbrev pub bad_aliases : Source
bad_aliases = source (
    item.Def (component kind.Addrmap (Some (name (codes "t") 8)) [] 8 (
    item.Def (component kind.Reg (Some (name (codes "P") 16)) [] 16 (
    item.Def (component kind.Field None [] 20 [] (Some (insts_of [] ((inst (name (codes "f") 29)) ∷ [])))) ∷ []) None) ∷
    item.Def (component kind.Regfile (Some (name (codes "G") 43)) [] 43 (
    item.Made None (name (codes "P") 47) (insts_of [] ((inst (name (codes "a") 49)) ∷ [])) ∷ []) None) ∷
    item.Made (Some (name (codes "q") 61)) (name (codes "P") 63) (insts_of [] ((inst (name (codes "a") 65)) ∷ [])) ∷
    item.Made (Some (name (codes "p") 74)) (name (codes "P") 76) (insts_of [] ((inst (name (codes "b") 78)) ∷ [])) ∷
    item.Made None (name (codes "P") 81) (insts_of [] ((inst (name (codes "p") 83)) ∷ [])) ∷
    item.Made None (name (codes "P") 86) (insts_of [] ((record (inst (name (codes "v") 88)) { dims = lend ((expr.Number 1 (at 90)) ∷ []) }) ∷ [])) ∷
    item.Made (Some (name (codes "v") 100)) (name (codes "P") 102) (insts_of [] ((inst (name (codes "c") 104)) ∷ [])) ∷
    item.Made (Some (name (codes "p") 113)) (name (codes "P") 115) (insts_of [] ((inst (name (codes "d") 117)) ∷ [])) ∷
    item.Made (Some (name (codes "d") 126)) (name (codes "P") 128) (insts_of [] ((inst (name (codes "e") 130)) ∷ [])) ∷
    item.Made None (name (codes "G") 133) (insts_of [] ((inst (name (codes "g") 135)) ∷ [])) ∷
    item.Made (Some (name (codes "g") 144)) (name (codes "P") 146) (insts_of [] ((inst (name (codes "h") 148)) ∷ [])) ∷
    item.Made (Some (name (codes "p") 157)) (name (codes "P") 159) (insts_of [] ((record (inst (name (codes "i") 161)) { dims = lend ((expr.Number 1 (at 163)) ∷ []) }) ∷ [])) ∷
    item.Made (Some (name (codes "p") 173)) (name (codes "G") 175) (insts_of [] ((inst (name (codes "j") 177)) ∷ [])) ∷
    item.Made (Some (name (codes "p") 186)) (name (codes "P") 188) (insts_of [] ((inst (name (codes "k") 190)) ∷ (inst (name (codes "l") 193)) ∷ [])) ∷
    item.Made None (name (codes "P") 196) (insts_of [] ((record (inst (name (codes "m") 198)) { range = (Some (lend ((expr.Number 3 (at 200)), (expr.Number 0 (at 202))))) }) ∷ [])) ∷
    item.Made (Some (name (codes "m") 212)) (name (codes "P") 214) (insts_of [] ((inst (name (codes "n") 216)) ∷ [])) ∷ []) None) ∷ [])

-- addrmap t { reg P { field {} f; }; regfile G { P a; }; G p; P p; alias p P a; P #(.x(1)) q; alias q P b; };
abbrev pub alias_of_the_first : Source
alias_of_the_first = source (
    item.Def (component kind.Addrmap (Some (name (codes "t") 8)) [] 8 (
    item.Def (component kind.Reg (Some (name (codes "P") 16)) [] 16 (
    item.Def (component kind.Field None [] 20 [] (Some (insts_of [] ((inst (name (codes "f") 29)) ∷ [])))) ∷ []) None) ∷
    item.Def (component kind.Regfile (Some (name (codes "G") 43)) [] 43 (
    item.Made None (name (codes "P") 47) (insts_of [] ((inst (name (codes "a") 49)) ∷ [])) ∷ []) None) ∷
    item.Made None (name (codes "G") 55) (insts_of [] ((inst (name (codes "p") 57)) ∷ [])) ∷
    item.Made None (name (codes "P") 60) (insts_of [] ((inst (name (codes "p") 62)) ∷ [])) ∷
    item.Made (Some (name (codes "p") 71)) (name (codes "P") 73) (insts_of [] ((inst (name (codes "a") 75)) ∷ [])) ∷
    item.Made None (name (codes "P") 78) (insts_of ((record { name = (name (codes "x") 83); value = (expr.Number 1 (at 85)) }) ∷ []) ((inst (name (codes "q") 89)) ∷ [])) ∷
    item.Made (Some (name (codes "q") 98)) (name (codes "P") 100) (insts_of [] ((inst (name (codes "b") 102)) ∷ [])) ∷ []) None) ∷ [])

-- addrmap t { enum e { A; A = 5; B; C = 0; D = 1 / 0; E = 0; }; reg R #(longint n = 0) {}; R #(.n(e::A)) a; R #(.n(e::B)) b; R #(.n(e::D)) c; };
abbrev pub bad_enums : Source
bad_enums = source (
    item.Def (component kind.Addrmap (Some (name (codes "t") 8)) [] 8 (
    item.EnumDef (name (codes "e") 17) (lend ((record { name = (name (codes "A") 21); value = None; sets = lend [] }) ∷ (record { name = (name (codes "A") 24); value = (Some (expr.Number 5 (at 28))); sets = lend [] }) ∷ (record { name = (name (codes "B") 31); value = None; sets = lend [] }) ∷ (record { name = (name (codes "C") 34); value = (Some (expr.Number 0 (at 38))); sets = lend [] }) ∷ (record { name = (name (codes "D") 41); value = (Some (expr.Binary op.Div (lend (expr.Number 1 (at 45))) (lend (expr.Number 0 (at 49))) (at 47))); sets = lend [] }) ∷ (record { name = (name (codes "E") 52); value = (Some (expr.Number 0 (at 56))); sets = lend [] }) ∷ [])) ∷
    item.Def (component kind.Reg (Some (name (codes "R") 66)) ((record { name = (name (codes "n") 78); ptype = ptype.Number; default = (Some (expr.Number 0 (at 82))) }) ∷ []) 66 [] None) ∷
    item.Made None (name (codes "R") 89) (insts_of ((record { name = (name (codes "n") 94); value = (expr.EntryOf (name (codes "e") 96) (name (codes "A") 99)) }) ∷ []) ((inst (name (codes "a") 103)) ∷ [])) ∷
    item.Made None (name (codes "R") 106) (insts_of ((record { name = (name (codes "n") 111); value = (expr.EntryOf (name (codes "e") 113) (name (codes "B") 116)) }) ∷ []) ((inst (name (codes "b") 120)) ∷ [])) ∷
    item.Made None (name (codes "R") 123) (insts_of ((record { name = (name (codes "n") 128); value = (expr.EntryOf (name (codes "e") 130) (name (codes "D") 133)) }) ∷ []) ((inst (name (codes "c") 137)) ∷ [])) ∷ []) None) ∷ [])

-- reg R {}; addrmap t { R a[x]; R b[1 + "s"]; R c[1 - 2]; R d[1 / 0]; R e[("s")]; R f[x.y]; R g[a->b]; R h[x + y]; R i[e::A]; };
abbrev pub values_in_dimensions : Source
values_in_dimensions = source (
    item.Def (component kind.Reg (Some (name (codes "R") 4)) [] 4 [] None) ∷
    item.Def (component kind.Addrmap (Some (name (codes "t") 18)) [] 18 (
    item.Made None (name (codes "R") 22) (insts_of [] ((record (inst (name (codes "a") 24)) { dims = lend ((expr.Ref (path_of ((step_to (name (codes "x") 26) []) ∷ [])) None) ∷ []) }) ∷ [])) ∷
    item.Made None (name (codes "R") 30) (insts_of [] ((record (inst (name (codes "b") 32)) { dims = lend ((expr.Binary op.Add (lend (expr.Number 1 (at 34))) (lend (expr.Str (lend (codes "s")) (at 38))) (at 36)) ∷ []) }) ∷ [])) ∷
    item.Made None (name (codes "R") 44) (insts_of [] ((record (inst (name (codes "c") 46)) { dims = lend ((expr.Binary op.Sub (lend (expr.Number 1 (at 48))) (lend (expr.Number 2 (at 52))) (at 50)) ∷ []) }) ∷ [])) ∷
    item.Made None (name (codes "R") 56) (insts_of [] ((record (inst (name (codes "d") 58)) { dims = lend ((expr.Binary op.Div (lend (expr.Number 1 (at 60))) (lend (expr.Number 0 (at 64))) (at 62)) ∷ []) }) ∷ [])) ∷
    item.Made None (name (codes "R") 68) (insts_of [] ((record (inst (name (codes "e") 70)) { dims = lend ((expr.Str (lend (codes "s")) (at 73)) ∷ []) }) ∷ [])) ∷
    item.Made None (name (codes "R") 80) (insts_of [] ((record (inst (name (codes "f") 82)) { dims = lend ((expr.Ref (path_of ((step_to (name (codes "x") 84) []) ∷ (step_to (name (codes "y") 86) []) ∷ [])) None) ∷ []) }) ∷ [])) ∷
    item.Made None (name (codes "R") 90) (insts_of [] ((record (inst (name (codes "g") 92)) { dims = lend ((expr.Ref (path_of ((step_to (name (codes "a") 94) []) ∷ [])) (Some (name (codes "b") 97))) ∷ []) }) ∷ [])) ∷
    item.Made None (name (codes "R") 101) (insts_of [] ((record (inst (name (codes "h") 103)) { dims = lend ((expr.Binary op.Add (lend (expr.Ref (path_of ((step_to (name (codes "x") 105) []) ∷ [])) None)) (lend (expr.Ref (path_of ((step_to (name (codes "y") 109) []) ∷ [])) None)) (at 107)) ∷ []) }) ∷ [])) ∷
    item.Made None (name (codes "R") 113) (insts_of [] ((record (inst (name (codes "i") 115)) { dims = lend ((expr.EntryOf (name (codes "e") 117) (name (codes "A") 120)) ∷ []) }) ∷ [])) ∷ []) None) ∷ [])

-- addrmap t { reg { field {} f[x:1 - 2] = 1 / 0; } r; reg {} a[2] @y += 1 / 0; reg {} b %= "s"; };
abbrev pub values_in_other_parts : Source
values_in_other_parts = source (
    item.Def (component kind.Addrmap (Some (name (codes "t") 8)) [] 8 (
    item.Def (component kind.Reg None [] 12 (
    item.Def (component kind.Field None [] 18 [] (Some (insts_of [] ((record (inst (name (codes "f") 27)) { range = (Some (lend ((expr.Ref (path_of ((step_to (name (codes "x") 29) []) ∷ [])) None), (expr.Binary op.Sub (lend (expr.Number 1 (at 31))) (lend (expr.Number 2 (at 35))) (at 33))))); reset = Some (lend (expr.Binary op.Div (lend (expr.Number 1 (at 40))) (lend (expr.Number 0 (at 44))) (at 42))) }) ∷ [])))) ∷ []) (Some (insts_of [] ((inst (name (codes "r") 49)) ∷ [])))) ∷
    item.Def (component kind.Reg None [] 52 [] (Some (insts_of [] ((record (inst (name (codes "a") 59)) { dims = lend ((expr.Number 2 (at 61)) ∷ []); at = Some (lend (expr.Ref (path_of ((step_to (name (codes "y") 65) []) ∷ [])) None)); stride = Some (lend (expr.Binary op.Div (lend (expr.Number 1 (at 70))) (lend (expr.Number 0 (at 74))) (at 72))) }) ∷ [])))) ∷
    item.Def (component kind.Reg None [] 77 [] (Some (insts_of [] ((record (inst (name (codes "b") 84)) { align = Some (lend (expr.Str (lend (codes "s")) (at 89))) }) ∷ [])))) ∷ []) None) ∷ [])

-- reg Q #(longint n) {}; addrmap t { Q #(.n(x)) a; Q #(.n("s")) b; Q #(.n(1 - 2)) c; Q #(.n(1 / 0)) d; };
abbrev pub values_in_arguments : Source
values_in_arguments = source (
    item.Def (component kind.Reg (Some (name (codes "Q") 4)) ((record { name = (name (codes "n") 16); ptype = ptype.Number; default = None }) ∷ []) 4 [] None) ∷
    item.Def (component kind.Addrmap (Some (name (codes "t") 31)) [] 31 (
    item.Made None (name (codes "Q") 35) (insts_of ((record { name = (name (codes "n") 40); value = (expr.Ref (path_of ((step_to (name (codes "x") 42) []) ∷ [])) None) }) ∷ []) ((inst (name (codes "a") 46)) ∷ [])) ∷
    item.Made None (name (codes "Q") 49) (insts_of ((record { name = (name (codes "n") 54); value = (expr.Str (lend (codes "s")) (at 56)) }) ∷ []) ((inst (name (codes "b") 62)) ∷ [])) ∷
    item.Made None (name (codes "Q") 65) (insts_of ((record { name = (name (codes "n") 70); value = (expr.Binary op.Sub (lend (expr.Number 1 (at 72))) (lend (expr.Number 2 (at 76))) (at 74)) }) ∷ []) ((inst (name (codes "c") 80)) ∷ [])) ∷
    item.Made None (name (codes "Q") 83) (insts_of ((record { name = (name (codes "n") 88); value = (expr.Binary op.Div (lend (expr.Number 1 (at 90))) (lend (expr.Number 0 (at 94))) (at 92)) }) ∷ []) ((inst (name (codes "d") 98)) ∷ [])) ∷ []) None) ∷ [])

-- reg A #(longint n = x) {}; reg B #(longint n = "s") {}; reg C #(longint n = 1 - 2) {}; reg D #(longint n = 1 / 0) {}; reg E #(longint n = m, longint m = 1) {}; addrmap t { A a; B b; C c; D d; D e; E f; };
abbrev pub values_in_defaults : Source
values_in_defaults = source (
    item.Def (component kind.Reg (Some (name (codes "A") 4)) ((record { name = (name (codes "n") 16); ptype = ptype.Number; default = (Some (expr.Ref (path_of ((step_to (name (codes "x") 20) []) ∷ [])) None)) }) ∷ []) 4 [] None) ∷
    item.Def (component kind.Reg (Some (name (codes "B") 31)) ((record { name = (name (codes "n") 43); ptype = ptype.Number; default = (Some (expr.Str (lend (codes "s")) (at 47))) }) ∷ []) 31 [] None) ∷
    item.Def (component kind.Reg (Some (name (codes "C") 60)) ((record { name = (name (codes "n") 72); ptype = ptype.Number; default = (Some (expr.Binary op.Sub (lend (expr.Number 1 (at 76))) (lend (expr.Number 2 (at 80))) (at 78))) }) ∷ []) 60 [] None) ∷
    item.Def (component kind.Reg (Some (name (codes "D") 91)) ((record { name = (name (codes "n") 103); ptype = ptype.Number; default = (Some (expr.Binary op.Div (lend (expr.Number 1 (at 107))) (lend (expr.Number 0 (at 111))) (at 109))) }) ∷ []) 91 [] None) ∷
    item.Def (component kind.Reg (Some (name (codes "E") 122)) ((record { name = (name (codes "n") 134); ptype = ptype.Number; default = (Some (expr.Ref (path_of ((step_to (name (codes "m") 138) []) ∷ [])) None)) }) ∷ (record { name = (name (codes "m") 149); ptype = ptype.Number; default = (Some (expr.Number 1 (at 153))) }) ∷ []) 122 [] None) ∷
    item.Def (component kind.Addrmap (Some (name (codes "t") 168)) [] 168 (
    item.Made None (name (codes "A") 172) (insts_of [] ((inst (name (codes "a") 174)) ∷ [])) ∷
    item.Made None (name (codes "B") 177) (insts_of [] ((inst (name (codes "b") 179)) ∷ [])) ∷
    item.Made None (name (codes "C") 182) (insts_of [] ((inst (name (codes "c") 184)) ∷ [])) ∷
    item.Made None (name (codes "D") 187) (insts_of [] ((inst (name (codes "d") 189)) ∷ [])) ∷
    item.Made None (name (codes "D") 192) (insts_of [] ((inst (name (codes "e") 194)) ∷ [])) ∷
    item.Made None (name (codes "E") 197) (insts_of [] ((inst (name (codes "f") 199)) ∷ [])) ∷ []) None) ∷ [])

-- enum a { A = x; }; enum b { A = "s"; }; enum c { A = 1 - 2; }; enum d { A = 1 / 0; }; enum m { A = 0xFFFFFFFFFFFFFFFF; B; }; enum n { A = 2; B = n::A; C = A; }; addrmap t {};
abbrev pub values_in_enums : Source
values_in_enums = source (
    item.EnumDef (name (codes "a") 5) (lend ((record { name = (name (codes "A") 9); value = (Some (expr.Ref (path_of ((step_to (name (codes "x") 13) []) ∷ [])) None)); sets = lend [] }) ∷ [])) ∷
    item.EnumDef (name (codes "b") 24) (lend ((record { name = (name (codes "A") 28); value = (Some (expr.Str (lend (codes "s")) (at 32))); sets = lend [] }) ∷ [])) ∷
    item.EnumDef (name (codes "c") 45) (lend ((record { name = (name (codes "A") 49); value = (Some (expr.Binary op.Sub (lend (expr.Number 1 (at 53))) (lend (expr.Number 2 (at 57))) (at 55))); sets = lend [] }) ∷ [])) ∷
    item.EnumDef (name (codes "d") 68) (lend ((record { name = (name (codes "A") 72); value = (Some (expr.Binary op.Div (lend (expr.Number 1 (at 76))) (lend (expr.Number 0 (at 80))) (at 78))); sets = lend [] }) ∷ [])) ∷
    item.EnumDef (name (codes "m") 91) (lend ((record { name = (name (codes "A") 95); value = (Some (expr.Number 18446744073709551615 (at 99))); sets = lend [] }) ∷ (record { name = (name (codes "B") 119); value = None; sets = lend [] }) ∷ [])) ∷
    item.EnumDef (name (codes "n") 130) (lend ((record { name = (name (codes "A") 134); value = (Some (expr.Number 2 (at 138))); sets = lend [] }) ∷ (record { name = (name (codes "B") 141); value = (Some (expr.EntryOf (name (codes "n") 145) (name (codes "A") 148))); sets = lend [] }) ∷ (record { name = (name (codes "C") 151); value = (Some (expr.Ref (path_of ((step_to (name (codes "A") 155) []) ∷ [])) None)); sets = lend [] }) ∷ [])) ∷
    item.Def (component kind.Addrmap (Some (name (codes "t") 169)) [] 169 [] None) ∷ [])

-- reg R #(longint n) { field {} f[8 / n]; }; addrmap t { R #(.n(1)) a; R #(.n(0)) b; R #(.n(0)) c[2]; };
abbrev pub values_of_a_body : Source
values_of_a_body = source (
    item.Def (component kind.Reg (Some (name (codes "R") 4)) ((record { name = (name (codes "n") 16); ptype = ptype.Number; default = None }) ∷ []) 4 (
    item.Def (component kind.Field None [] 21 [] (Some (insts_of [] ((record (inst (name (codes "f") 30)) { dims = lend ((expr.Binary op.Div (lend (expr.Number 8 (at 32))) (lend (expr.Ref (path_of ((step_to (name (codes "n") 36) []) ∷ [])) None)) (at 34)) ∷ []) }) ∷ [])))) ∷ []) None) ∷
    item.Def (component kind.Addrmap (Some (name (codes "t") 51)) [] 51 (
    item.Made None (name (codes "R") 55) (insts_of ((record { name = (name (codes "n") 60); value = (expr.Number 1 (at 62)) }) ∷ []) ((inst (name (codes "a") 66)) ∷ [])) ∷
    item.Made None (name (codes "R") 69) (insts_of ((record { name = (name (codes "n") 74); value = (expr.Number 0 (at 76)) }) ∷ []) ((inst (name (codes "b") 80)) ∷ [])) ∷
    item.Made None (name (codes "R") 83) (insts_of ((record { name = (name (codes "n") 88); value = (expr.Number 0 (at 90)) }) ∷ []) ((record (inst (name (codes "c") 94)) { dims = lend ((expr.Number 2 (at 96)) ∷ []) }) ∷ [])) ∷ []) None) ∷ [])

-- reg R { field {} f; }; addrmap t { R a; reg R { field {} g; }; R b; regfile { R c; reg R { field {} h; }; R d; } e; };
abbrev pub nearer_definitions : Source
nearer_definitions = source (
    item.Def (component kind.Reg (Some (name (codes "R") 4)) [] 4 (
    item.Def (component kind.Field None [] 8 [] (Some (insts_of [] ((inst (name (codes "f") 17)) ∷ [])))) ∷ []) None) ∷
    item.Def (component kind.Addrmap (Some (name (codes "t") 31)) [] 31 (
    item.Made None (name (codes "R") 35) (insts_of [] ((inst (name (codes "a") 37)) ∷ [])) ∷
    item.Def (component kind.Reg (Some (name (codes "R") 44)) [] 44 (
    item.Def (component kind.Field None [] 48 [] (Some (insts_of [] ((inst (name (codes "g") 57)) ∷ [])))) ∷ []) None) ∷
    item.Made None (name (codes "R") 63) (insts_of [] ((inst (name (codes "b") 65)) ∷ [])) ∷
    item.Def (component kind.Regfile None [] 68 (
    item.Made None (name (codes "R") 78) (insts_of [] ((inst (name (codes "c") 80)) ∷ [])) ∷
    item.Def (component kind.Reg (Some (name (codes "R") 87)) [] 87 (
    item.Def (component kind.Field None [] 91 [] (Some (insts_of [] ((inst (name (codes "h") 100)) ∷ [])))) ∷ []) None) ∷
    item.Made None (name (codes "R") 106) (insts_of [] ((inst (name (codes "d") 108)) ∷ [])) ∷ []) (Some (insts_of [] ((inst (name (codes "e") 113)) ∷ [])))) ∷ []) None) ∷ [])

-- reg S { S x; }; addrmap t { S y; L a; reg L {}; L b; regfile { reg I {}; } g; I c; };
abbrev pub invisible_definitions : Source
invisible_definitions = source (
    item.Def (component kind.Reg (Some (name (codes "S") 4)) [] 4 (
    item.Made None (name (codes "S") 8) (insts_of [] ((inst (name (codes "x") 10)) ∷ [])) ∷ []) None) ∷
    item.Def (component kind.Addrmap (Some (name (codes "t") 24)) [] 24 (
    item.Made None (name (codes "S") 28) (insts_of [] ((inst (name (codes "y") 30)) ∷ [])) ∷
    item.Made None (name (codes "L") 33) (insts_of [] ((inst (name (codes "a") 35)) ∷ [])) ∷
    item.Def (component kind.Reg (Some (name (codes "L") 42)) [] 42 [] None) ∷
    item.Made None (name (codes "L") 48) (insts_of [] ((inst (name (codes "b") 50)) ∷ [])) ∷
    item.Def (component kind.Regfile None [] 53 (
    item.Def (component kind.Reg (Some (name (codes "I") 67)) [] 67 [] None) ∷ []) (Some (insts_of [] ((inst (name (codes "g") 75)) ∷ [])))) ∷
    item.Made None (name (codes "I") 78) (insts_of [] ((inst (name (codes "c") 80)) ∷ [])) ∷ []) None) ∷ [])

-- regfile G #(longint n = 1) { reg R #(longint n = 2, longint m = n) {}; reg Q #(longint m = n, longint n = 7) {}; R a; R #(.n(n + 3)) b; Q c; }; addrmap t { G #(.n(5)) g; };
abbrev pub nearer_parameters : Source
nearer_parameters = source (
    item.Def (component kind.Regfile (Some (name (codes "G") 8)) ((record { name = (name (codes "n") 20); ptype = ptype.Number; default = (Some (expr.Number 1 (at 24))) }) ∷ []) 8 (
    item.Def (component kind.Reg (Some (name (codes "R") 33)) ((record { name = (name (codes "n") 45); ptype = ptype.Number; default = (Some (expr.Number 2 (at 49))) }) ∷ (record { name = (name (codes "m") 60); ptype = ptype.Number; default = (Some (expr.Ref (path_of ((step_to (name (codes "n") 64) []) ∷ [])) None)) }) ∷ []) 33 [] None) ∷
    item.Def (component kind.Reg (Some (name (codes "Q") 75)) ((record { name = (name (codes "m") 87); ptype = ptype.Number; default = (Some (expr.Ref (path_of ((step_to (name (codes "n") 91) []) ∷ [])) None)) }) ∷ (record { name = (name (codes "n") 102); ptype = ptype.Number; default = (Some (expr.Number 7 (at 106))) }) ∷ []) 75 [] None) ∷
    item.Made None (name (codes "R") 113) (insts_of [] ((inst (name (codes "a") 115)) ∷ [])) ∷
    item.Made None (name (codes "R") 118) (insts_of ((record { name = (name (codes "n") 123); value = (expr.Binary op.Add (lend (expr.Ref (path_of ((step_to (name (codes "n") 125) []) ∷ [])) None)) (lend (expr.Number 3 (at 129))) (at 127)) }) ∷ []) ((inst (name (codes "b") 133)) ∷ [])) ∷
    item.Made None (name (codes "Q") 136) (insts_of [] ((inst (name (codes "c") 138)) ∷ [])) ∷ []) None) ∷
    item.Def (component kind.Addrmap (Some (name (codes "t") 152)) [] 152 (
    item.Made None (name (codes "G") 156) (insts_of ((record { name = (name (codes "n") 161); value = (expr.Number 5 (at 163)) }) ∷ []) ((inst (name (codes "g") 167)) ∷ [])) ∷ []) None) ∷ [])

-- enum e { A = 1; B = 9; }; reg R #(longint n) {}; addrmap t { R #(.n(e::A)) a; enum e { A = 2; }; R #(.n(e::A)) b; R #(.n(e::B)) c; };
abbrev pub nearer_enums : Source
nearer_enums = source (
    item.EnumDef (name (codes "e") 5) (lend ((record { name = (name (codes "A") 9); value = (Some (expr.Number 1 (at 13))); sets = lend [] }) ∷ (record { name = (name (codes "B") 16); value = (Some (expr.Number 9 (at 20))); sets = lend [] }) ∷ [])) ∷
    item.Def (component kind.Reg (Some (name (codes "R") 30)) ((record { name = (name (codes "n") 42); ptype = ptype.Number; default = None }) ∷ []) 30 [] None) ∷
    item.Def (component kind.Addrmap (Some (name (codes "t") 57)) [] 57 (
    item.Made None (name (codes "R") 61) (insts_of ((record { name = (name (codes "n") 66); value = (expr.EntryOf (name (codes "e") 68) (name (codes "A") 71)) }) ∷ []) ((inst (name (codes "a") 75)) ∷ [])) ∷
    item.EnumDef (name (codes "e") 83) (lend ((record { name = (name (codes "A") 87); value = (Some (expr.Number 2 (at 91))); sets = lend [] }) ∷ [])) ∷
    item.Made None (name (codes "R") 97) (insts_of ((record { name = (name (codes "n") 102); value = (expr.EntryOf (name (codes "e") 104) (name (codes "A") 107)) }) ∷ []) ((inst (name (codes "b") 111)) ∷ [])) ∷
    item.Made None (name (codes "R") 114) (insts_of ((record { name = (name (codes "n") 119); value = (expr.EntryOf (name (codes "e") 121) (name (codes "B") 124)) }) ∷ []) ((inst (name (codes "c") 128)) ∷ [])) ∷ []) None) ∷ [])

-- enum e { A; B; C = 7; D; }; enum f { A = e::D; B; }; reg R #(longint n) {}; addrmap t { R #(.n(e::B)) a; R #(.n(e::D)) b; R #(.n(f::B)) c; };
abbrev pub counted_enums : Source
counted_enums = source (
    item.EnumDef (name (codes "e") 5) (lend ((record { name = (name (codes "A") 9); value = None; sets = lend [] }) ∷ (record { name = (name (codes "B") 12); value = None; sets = lend [] }) ∷ (record { name = (name (codes "C") 15); value = (Some (expr.Number 7 (at 19))); sets = lend [] }) ∷ (record { name = (name (codes "D") 22); value = None; sets = lend [] }) ∷ [])) ∷
    item.EnumDef (name (codes "f") 33) (lend ((record { name = (name (codes "A") 37); value = (Some (expr.EntryOf (name (codes "e") 41) (name (codes "D") 44))); sets = lend [] }) ∷ (record { name = (name (codes "B") 47); value = None; sets = lend [] }) ∷ [])) ∷
    item.Def (component kind.Reg (Some (name (codes "R") 57)) ((record { name = (name (codes "n") 69); ptype = ptype.Number; default = None }) ∷ []) 57 [] None) ∷
    item.Def (component kind.Addrmap (Some (name (codes "t") 84)) [] 84 (
    item.Made None (name (codes "R") 88) (insts_of ((record { name = (name (codes "n") 93); value = (expr.EntryOf (name (codes "e") 95) (name (codes "B") 98)) }) ∷ []) ((inst (name (codes "a") 102)) ∷ [])) ∷
    item.Made None (name (codes "R") 105) (insts_of ((record { name = (name (codes "n") 110); value = (expr.EntryOf (name (codes "e") 112) (name (codes "D") 115)) }) ∷ []) ((inst (name (codes "b") 119)) ∷ [])) ∷
    item.Made None (name (codes "R") 122) (insts_of ((record { name = (name (codes "n") 127); value = (expr.EntryOf (name (codes "f") 129) (name (codes "B") 132)) }) ∷ []) ((inst (name (codes "c") 136)) ∷ [])) ∷ []) None) ∷ [])

-- addrmap a { reg {} x; }; addrmap b { reg {} y; }; addrmap a { reg {} z; }; reg c {};
abbrev pub three_tops : Source
three_tops = source (
    item.Def (component kind.Addrmap (Some (name (codes "a") 8)) [] 8 (
    item.Def (component kind.Reg None [] 12 [] (Some (insts_of [] ((inst (name (codes "x") 19)) ∷ [])))) ∷ []) None) ∷
    item.Def (component kind.Addrmap (Some (name (codes "b") 33)) [] 33 (
    item.Def (component kind.Reg None [] 37 [] (Some (insts_of [] ((inst (name (codes "y") 44)) ∷ [])))) ∷ []) None) ∷
    item.Def (component kind.Addrmap (Some (name (codes "a") 58)) [] 58 (
    item.Def (component kind.Reg None [] 62 [] (Some (insts_of [] ((inst (name (codes "z") 69)) ∷ [])))) ∷ []) None) ∷
    item.Def (component kind.Reg (Some (name (codes "c") 79)) [] 79 [] None) ∷ [])

-- signal {} g[2]; reg R { field {} f; signal {} s; }; addrmap t { R a[2]; regfile { R c; } b; }; signal {} a;
abbrev pub order_of_nodes : Source
order_of_nodes = source (
    item.Def (component kind.Signal None [] 0 [] (Some (insts_of [] ((record (inst (name (codes "g") 10)) { dims = lend ((expr.Number 2 (at 12)) ∷ []) }) ∷ [])))) ∷
    item.Def (component kind.Reg (Some (name (codes "R") 20)) [] 20 (
    item.Def (component kind.Field None [] 24 [] (Some (insts_of [] ((inst (name (codes "f") 33)) ∷ [])))) ∷
    item.Def (component kind.Signal None [] 36 [] (Some (insts_of [] ((inst (name (codes "s") 46)) ∷ [])))) ∷ []) None) ∷
    item.Def (component kind.Addrmap (Some (name (codes "t") 60)) [] 60 (
    item.Made None (name (codes "R") 64) (insts_of [] ((record (inst (name (codes "a") 66)) { dims = lend ((expr.Number 2 (at 68)) ∷ []) }) ∷ [])) ∷
    item.Def (component kind.Regfile None [] 72 (
    item.Made None (name (codes "R") 82) (insts_of [] ((inst (name (codes "c") 84)) ∷ [])) ∷ []) (Some (insts_of [] ((inst (name (codes "b") 89)) ∷ [])))) ∷ []) None) ∷
    item.Def (component kind.Signal None [] 95 [] (Some (insts_of [] ((inst (name (codes "a") 105)) ∷ [])))) ∷ [])

-- signal {} g; addrmap k { reg P #(longint n = 4) { field {} e; }; P p[1]; P q; alias q P s; };
abbrev pub alias_beside : Source
alias_beside = source (
    item.Def (component kind.Signal None [] 0 [] (Some (insts_of [] ((inst (name (codes "g") 10)) ∷ [])))) ∷
    item.Def (component kind.Addrmap (Some (name (codes "k") 21)) [] 21 (
    item.Def (component kind.Reg (Some (name (codes "P") 29)) ((record { name = (name (codes "n") 41); ptype = ptype.Number; default = (Some (expr.Number 4 (at 45))) }) ∷ []) 29 (
    item.Def (component kind.Field None [] 50 [] (Some (insts_of [] ((inst (name (codes "e") 59)) ∷ [])))) ∷ []) None) ∷
    item.Made None (name (codes "P") 65) (insts_of [] ((record (inst (name (codes "p") 67)) { dims = lend ((expr.Number 1 (at 69)) ∷ []) }) ∷ [])) ∷
    item.Made None (name (codes "P") 73) (insts_of [] ((inst (name (codes "q") 75)) ∷ [])) ∷
    item.Made (Some (name (codes "q") 84)) (name (codes "P") 86) (insts_of [] ((inst (name (codes "s") 88)) ∷ [])) ∷ []) None) ∷ [])

-- Sources that are too long to write out. Their places are made up, each definition's and instance's its own.

-- reg {} NAME[N][N] ..;
abbrev register : List ℕ → List Expr → ℕ → Item
register text dims place = item.Def (component kind.Reg None [] (place + 1) [] (Some (insts_of [] (record (inst (name text place)) { dims = lend dims } ∷ []))))

abbrev top : List ℕ → List Item → Source
top text items = source (item.Def (component kind.Addrmap (Some (name text 1)) [] 1 items None) ∷ [])

-- bit p0 = 0, bit p1 = 0, ..
abbrev bits : ℕ → List Param
bits n = map (λ i. record { name = name (i ∷ []) 2; ptype = ptype.Number; default = Some (expr.Number 0 (at 3)) }) (upto n)

-- reg R #(BITS) {}; addrmap t { R a; R a; };
abbrev pub with_parameters : ℕ → Source
with_parameters n = source (
    item.Def (component kind.Reg (Some (name (codes "R") 4)) (bits n) 4 [] None) ∷
    item.Def (component kind.Addrmap (Some (name (codes "t") 5)) [] 5 (
    item.Made None (name (codes "R") 6) (insts_of [] (inst (name (codes "a") 7) ∷ [])) ∷
    item.Made None (name (codes "R") 8) (insts_of [] (inst (name (codes "a") 9) ∷ [])) ∷ []) None) ∷ [])

-- regfile { regfile { .. reg {} r; .. } g; } g;
abbrev nested : ℕ → Item
nested zero = register (codes "r") [] 2
nested (suc n) = item.Def (component kind.Regfile None [] 3 (nested n ∷ []) (Some (insts_of [] (inst (name (codes "g") 4) ∷ []))))

-- a register inside so many register files
abbrev pub deep : ℕ → Source
deep n = top (codes "t") (nested n ∷ [])

abbrev letters : ℕ → ℕ → List ℕ
letters letter n = replicate n letter

abbrev pub one_dims : ℕ → List Expr
one_dims n = map (λ i. expr.Number 1 (at 9)) (upto n)

-- names and last elements of 900 and 901 bytes; with nine dimensions, with one of 0, and with one that has no value
abbrev pub long_paths : Source
long_paths = top (codes "t") (
    register (letters 97 900) [] 10 ∷
    register (letters 98 901) [] 20 ∷
    register (letters 99 898) (expr.Number 10 (at 31) ∷ []) 30 ∷
    register (letters 100 898) (expr.Number 11 (at 41) ∷ []) 40 ∷
    register (letters 101 901) (one_dims 9) 50 ∷
    register (letters 102 901) (expr.Number 0 (at 61) ∷ []) 60 ∷
    register (letters 103 901) (expr.Ref (path_of (step_to (name (codes "x") 71) [] ∷ [])) None ∷ []) 70 ∷ [])

-- a top with a name of 901 bytes
abbrev pub long_top : Source
long_top = top (letters 97 901) (register (codes "a") [] 10 ∷ [])
