-- Sources that show which setting holds, and which assignments break a rule.
use Rattle.std.proofs.Common.{[], ◌∷◌, None, Some, codes, true, false}
use Rattle.rdl_tree.specs.declared.item.Item.TheVariants as item
use Rattle.rdl_tree.specs.declared.item.Source.{Source}
use Rattle.rdl_tree.specs.declared.expr.Expr.TheVariants as expr
use Rattle.rdl_tree.specs.declared.expr.Op.TheVariants as op
use Rattle.rdl_tree.specs.declared.item.Kind.TheVariants as kind
use Rattle.rdl_tree.specs.declared.item.PType.TheVariants as ptype
use Rattle.rb_base.specs.declared.trigger.Trigger.TheVariants as trigger
use Rattle.rdl_base.specs.declared.keyword.Keyword.TheVariants as keyword
use Rattle.rdl_verdict_laws.proofs.WorkedTrees.{lend, at, name, step_to, path_of, word, value, assign, inst, insts_of, component, source}

-- addrmap d { default sw=r; regfile { reg { field { sw=rw; hw=r; } f; field { hw=w; } g; f->sw=r; } a; a.f->sw=rw; } b; b.a.f->sw=w; };
abbrev pub outermost_decides : Source
outermost_decides = source (
    item.Def (component kind.Addrmap (Some (name (codes "d") 8)) [] 8 (
    item.Default (assign (name (codes "sw") 20) None (word keyword.R) 12) ∷
    item.Def (component kind.Regfile None [] 26 (
    item.Def (component kind.Reg None [] 36 (
    item.Def (component kind.Field None [] 42 (
    item.Local (assign (name (codes "sw") 50) None (word keyword.Rw) 50) ∷
    item.Local (assign (name (codes "hw") 57) None (word keyword.R) 57) ∷ []) (Some (insts_of [] ((inst (name (codes "f") 65)) ∷ [])))) ∷
    item.Def (component kind.Field None [] 68 (
    item.Local (assign (name (codes "hw") 76) None (word keyword.W) 76) ∷ []) (Some (insts_of [] ((inst (name (codes "g") 84)) ∷ [])))) ∷
    item.Dynamic (path_of ((step_to (name (codes "f") 87) []) ∷ [])) (assign (name (codes "sw") 90) None (word keyword.R) 87) ∷ []) (Some (insts_of [] ((inst (name (codes "a") 98)) ∷ [])))) ∷
    item.Dynamic (path_of ((step_to (name (codes "a") 101) []) ∷ (step_to (name (codes "f") 103) []) ∷ [])) (assign (name (codes "sw") 106) None (word keyword.Rw) 101) ∷ []) (Some (insts_of [] ((inst (name (codes "b") 115)) ∷ [])))) ∷
    item.Dynamic (path_of ((step_to (name (codes "b") 118) []) ∷ (step_to (name (codes "a") 120) []) ∷ (step_to (name (codes "f") 122) []) ∷ [])) (assign (name (codes "sw") 125) None (word keyword.W) 118) ∷ []) None) ∷ [])

-- addrmap d { reg { field { sw = r; hw = w; } f; field { sw = r; } g; f->sw = w; } a; };
abbrev pub dynamic_beats_body : Source
dynamic_beats_body = source (
    item.Def (component kind.Addrmap (Some (name (codes "d") 8)) [] 8 (
    item.Def (component kind.Reg None [] 12 (
    item.Def (component kind.Field None [] 18 (
    item.Local (assign (name (codes "sw") 26) None (word keyword.R) 26) ∷
    item.Local (assign (name (codes "hw") 34) None (word keyword.W) 34) ∷ []) (Some (insts_of [] ((inst (name (codes "f") 44)) ∷ [])))) ∷
    item.Def (component kind.Field None [] 47 (
    item.Local (assign (name (codes "sw") 55) None (word keyword.R) 55) ∷ []) (Some (insts_of [] ((inst (name (codes "g") 65)) ∷ [])))) ∷
    item.Dynamic (path_of ((step_to (name (codes "f") 68) []) ∷ [])) (assign (name (codes "sw") 71) None (word keyword.W) 68) ∷ []) (Some (insts_of [] ((inst (name (codes "a") 81)) ∷ [])))) ∷ []) None) ∷ [])

-- default sw = w1; addrmap d { default sw = r; default hw = r; regfile { default sw = w; reg { field {} f; field { sw = rw; } g; } a; } b; };
abbrev pub nearest_default_decides : Source
nearest_default_decides = source (
    item.Default (assign (name (codes "sw") 8) None (word keyword.W1) 0) ∷
    item.Def (component kind.Addrmap (Some (name (codes "d") 25)) [] 25 (
    item.Default (assign (name (codes "sw") 37) None (word keyword.R) 29) ∷
    item.Default (assign (name (codes "hw") 53) None (word keyword.R) 45) ∷
    item.Def (component kind.Regfile None [] 61 (
    item.Default (assign (name (codes "sw") 79) None (word keyword.W) 71) ∷
    item.Def (component kind.Reg None [] 87 (
    item.Def (component kind.Field None [] 93 [] (Some (insts_of [] ((inst (name (codes "f") 102)) ∷ [])))) ∷
    item.Def (component kind.Field None [] 105 (
    item.Local (assign (name (codes "sw") 113) None (word keyword.Rw) 113) ∷ []) (Some (insts_of [] ((inst (name (codes "g") 124)) ∷ [])))) ∷ []) (Some (insts_of [] ((inst (name (codes "a") 129)) ∷ [])))) ∷ []) (Some (insts_of [] ((inst (name (codes "b") 134)) ∷ [])))) ∷ []) None) ∷ [])

-- default sw = w1; addrmap d { reg { field {} f; } a; };
abbrev pub root_default : Source
root_default = source (
    item.Default (assign (name (codes "sw") 8) None (word keyword.W1) 0) ∷
    item.Def (component kind.Addrmap (Some (name (codes "d") 25)) [] 25 (
    item.Def (component kind.Reg None [] 29 (
    item.Def (component kind.Field None [] 35 [] (Some (insts_of [] ((inst (name (codes "f") 44)) ∷ [])))) ∷ []) (Some (insts_of [] ((inst (name (codes "a") 49)) ∷ [])))) ∷ []) None) ∷ [])

-- addrmap d { reg { field {} f; default sw = r; field {} g; } a; default hw = w; };
abbrev pub default_behind : Source
default_behind = source (
    item.Def (component kind.Addrmap (Some (name (codes "d") 8)) [] 8 (
    item.Def (component kind.Reg None [] 12 (
    item.Def (component kind.Field None [] 18 [] (Some (insts_of [] ((inst (name (codes "f") 27)) ∷ [])))) ∷
    item.Default (assign (name (codes "sw") 38) None (word keyword.R) 30) ∷
    item.Def (component kind.Field None [] 46 [] (Some (insts_of [] ((inst (name (codes "g") 55)) ∷ [])))) ∷ []) (Some (insts_of [] ((inst (name (codes "a") 60)) ∷ [])))) ∷
    item.Default (assign (name (codes "hw") 71) None (word keyword.W) 63) ∷ []) None) ∷ [])

-- addrmap d { default sw = r; field T {}; reg { default sw = w; T f; field {} g; } a; };
abbrev pub default_by_text : Source
default_by_text = source (
    item.Def (component kind.Addrmap (Some (name (codes "d") 8)) [] 8 (
    item.Default (assign (name (codes "sw") 20) None (word keyword.R) 12) ∷
    item.Def (component kind.Field (Some (name (codes "T") 34)) [] 34 [] None) ∷
    item.Def (component kind.Reg None [] 40 (
    item.Default (assign (name (codes "sw") 54) None (word keyword.W) 46) ∷
    item.Made None (name (codes "T") 62) (insts_of [] ((inst (name (codes "f") 64)) ∷ [])) ∷
    item.Def (component kind.Field None [] 67 [] (Some (insts_of [] ((inst (name (codes "g") 76)) ∷ [])))) ∷ []) (Some (insts_of [] ((inst (name (codes "a") 81)) ∷ [])))) ∷ []) None) ∷ [])

-- addrmap d { default regwidth = 8; default sw = r; reg { field {} f; } a; };
abbrev pub default_of_another_kind : Source
default_of_another_kind = source (
    item.Def (component kind.Addrmap (Some (name (codes "d") 8)) [] 8 (
    item.Default (assign (name (codes "regwidth") 20) None (value (expr.Number 8 (at 31))) 12) ∷
    item.Default (assign (name (codes "sw") 42) None (word keyword.R) 34) ∷
    item.Def (component kind.Reg None [] 50 (
    item.Def (component kind.Field None [] 56 [] (Some (insts_of [] ((inst (name (codes "f") 65)) ∷ [])))) ∷ []) (Some (insts_of [] ((inst (name (codes "a") 70)) ∷ [])))) ∷ []) None) ∷ [])

-- addrmap d { default reset = 9; reg { field { reset = 1; } f = 2; field { reset = 1; } g; field { reset = 1; } h = 2; field {} k; field {} l = true; h->reset = 3; } a; };
abbrev pub instance_value : Source
instance_value = source (
    item.Def (component kind.Addrmap (Some (name (codes "d") 8)) [] 8 (
    item.Default (assign (name (codes "reset") 20) None (value (expr.Number 9 (at 28))) 12) ∷
    item.Def (component kind.Reg None [] 31 (
    item.Def (component kind.Field None [] 37 (
    item.Local (assign (name (codes "reset") 45) None (value (expr.Number 1 (at 53))) 45) ∷ []) (Some (insts_of [] ((record (inst (name (codes "f") 58)) { reset = Some (lend (expr.Number 2 (at 62))) }) ∷ [])))) ∷
    item.Def (component kind.Field None [] 65 (
    item.Local (assign (name (codes "reset") 73) None (value (expr.Number 1 (at 81))) 73) ∷ []) (Some (insts_of [] ((inst (name (codes "g") 86)) ∷ [])))) ∷
    item.Def (component kind.Field None [] 89 (
    item.Local (assign (name (codes "reset") 97) None (value (expr.Number 1 (at 105))) 97) ∷ []) (Some (insts_of [] ((record (inst (name (codes "h") 110)) { reset = Some (lend (expr.Number 2 (at 114))) }) ∷ [])))) ∷
    item.Def (component kind.Field None [] 117 [] (Some (insts_of [] ((inst (name (codes "k") 126)) ∷ [])))) ∷
    item.Def (component kind.Field None [] 129 [] (Some (insts_of [] ((record (inst (name (codes "l") 138)) { reset = Some (lend (expr.Flag true (at 142))) }) ∷ [])))) ∷
    item.Dynamic (path_of ((step_to (name (codes "h") 148) []) ∷ [])) (assign (name (codes "reset") 151) None (value (expr.Number 3 (at 159))) 148) ∷ []) (Some (insts_of [] ((inst (name (codes "a") 164)) ∷ [])))) ∷ []) None) ∷ [])

-- addrmap d { regfile G #(longint unsigned W = 8) { default regwidth = W; reg { field {} f; } a; }; G x; G #(.W(16)) y; };
abbrev pub default_of_parameters : Source
default_of_parameters = source (
    item.Def (component kind.Addrmap (Some (name (codes "d") 8)) [] 8 (
    item.Def (component kind.Regfile (Some (name (codes "G") 20)) ((record { name = (name (codes "W") 41); ptype = ptype.Number; default = (Some (expr.Number 8 (at 45))) }) ∷ []) 20 (
    item.Default (assign (name (codes "regwidth") 58) None (value (expr.Ref (path_of ((step_to (name (codes "W") 69) []) ∷ [])) None)) 50) ∷
    item.Def (component kind.Reg None [] 72 (
    item.Def (component kind.Field None [] 78 [] (Some (insts_of [] ((inst (name (codes "f") 87)) ∷ [])))) ∷ []) (Some (insts_of [] ((inst (name (codes "a") 92)) ∷ [])))) ∷ []) None) ∷
    item.Made None (name (codes "G") 98) (insts_of [] ((inst (name (codes "x") 100)) ∷ [])) ∷
    item.Made None (name (codes "G") 103) (insts_of ((record { name = (name (codes "W") 108); value = (expr.Number 16 (at 110)) }) ∷ []) ((inst (name (codes "y") 115)) ∷ [])) ∷ []) None) ∷ [])

-- addrmap d { signal { sync = false; } s; signal { async = false; } t; signal { async; } u; signal { activehigh = false; } v; signal {} z; };
abbrev pub false_signal_members : Source
false_signal_members = source (
    item.Def (component kind.Addrmap (Some (name (codes "d") 8)) [] 8 (
    item.Def (component kind.Signal None [] 12 (
    item.Local (assign (name (codes "sync") 21) None (value (expr.Flag false (at 28))) 21) ∷ []) (Some (insts_of [] ((inst (name (codes "s") 37)) ∷ [])))) ∷
    item.Def (component kind.Signal None [] 40 (
    item.Local (assign (name (codes "async") 49) None (value (expr.Flag false (at 57))) 49) ∷ []) (Some (insts_of [] ((inst (name (codes "t") 66)) ∷ [])))) ∷
    item.Def (component kind.Signal None [] 69 (
    item.Local (assign (name (codes "async") 78) None None 78) ∷ []) (Some (insts_of [] ((inst (name (codes "u") 87)) ∷ [])))) ∷
    item.Def (component kind.Signal None [] 90 (
    item.Local (assign (name (codes "activehigh") 99) None (value (expr.Flag false (at 112))) 99) ∷ []) (Some (insts_of [] ((inst (name (codes "v") 121)) ∷ [])))) ∷
    item.Def (component kind.Signal None [] 124 [] (Some (insts_of [] ((inst (name (codes "z") 134)) ∷ [])))) ∷ []) None) ∷ [])

-- addrmap d { default woset; default swwe; reg { field { woclr = false; swwel = 0; } f; field { incrvalue = false; } g; field { intr = false; sticky = false; counter = false; } h; } a; };
abbrev pub false_field_members : Source
false_field_members = source (
    item.Def (component kind.Addrmap (Some (name (codes "d") 8)) [] 8 (
    item.Default (assign (name (codes "woset") 20) None None 12) ∷
    item.Default (assign (name (codes "swwe") 35) None None 27) ∷
    item.Def (component kind.Reg None [] 41 (
    item.Def (component kind.Field None [] 47 (
    item.Local (assign (name (codes "woclr") 55) None (value (expr.Flag false (at 63))) 55) ∷
    item.Local (assign (name (codes "swwel") 70) None (value (expr.Number 0 (at 78))) 70) ∷ []) (Some (insts_of [] ((inst (name (codes "f") 83)) ∷ [])))) ∷
    item.Def (component kind.Field None [] 86 (
    item.Local (assign (name (codes "incrvalue") 94) None (value (expr.Flag false (at 106))) 94) ∷ []) (Some (insts_of [] ((inst (name (codes "g") 115)) ∷ [])))) ∷
    item.Def (component kind.Field None [] 118 (
    item.Local (assign (name (codes "intr") 126) None (value (expr.Flag false (at 133))) 126) ∷
    item.Local (assign (name (codes "sticky") 140) None (value (expr.Flag false (at 149))) 140) ∷
    item.Local (assign (name (codes "counter") 156) None (value (expr.Flag false (at 166))) 156) ∷ []) (Some (insts_of [] ((inst (name (codes "h") 175)) ∷ [])))) ∷ []) (Some (insts_of [] ((inst (name (codes "a") 180)) ∷ [])))) ∷ []) None) ∷ [])

-- addrmap d { default onwrite = woclr; default onread = rclr; reg { field { woset; } f; field {} g; field { rset; } h; } a; a.h->rclr = true; };
abbrev pub another_member : Source
another_member = source (
    item.Def (component kind.Addrmap (Some (name (codes "d") 8)) [] 8 (
    item.Default (assign (name (codes "onwrite") 20) None (word keyword.Woclr) 12) ∷
    item.Default (assign (name (codes "onread") 45) None (word keyword.Rclr) 37) ∷
    item.Def (component kind.Reg None [] 60 (
    item.Def (component kind.Field None [] 66 (
    item.Local (assign (name (codes "woset") 74) None None 74) ∷ []) (Some (insts_of [] ((inst (name (codes "f") 83)) ∷ [])))) ∷
    item.Def (component kind.Field None [] 86 [] (Some (insts_of [] ((inst (name (codes "g") 95)) ∷ [])))) ∷
    item.Def (component kind.Field None [] 98 (
    item.Local (assign (name (codes "rset") 106) None None 106) ∷ []) (Some (insts_of [] ((inst (name (codes "h") 114)) ∷ [])))) ∷ []) (Some (insts_of [] ((inst (name (codes "a") 119)) ∷ [])))) ∷
    item.Dynamic (path_of ((step_to (name (codes "a") 122) []) ∷ (step_to (name (codes "h") 124) []) ∷ [])) (assign (name (codes "rclr") 127) None (value (expr.Flag true (at 134))) 122) ∷ []) None) ∷ [])

-- addrmap d { reg { field { counter; saturate = 5; threshold; } f; } a; };
abbrev pub short_names : Source
short_names = source (
    item.Def (component kind.Addrmap (Some (name (codes "d") 8)) [] 8 (
    item.Def (component kind.Reg None [] 12 (
    item.Def (component kind.Field None [] 18 (
    item.Local (assign (name (codes "counter") 26) None None 26) ∷
    item.Local (assign (name (codes "saturate") 35) None (value (expr.Number 5 (at 46))) 35) ∷
    item.Local (assign (name (codes "threshold") 49) None None 49) ∷ []) (Some (insts_of [] ((inst (name (codes "f") 62)) ∷ [])))) ∷ []) (Some (insts_of [] ((inst (name (codes "a") 67)) ∷ [])))) ∷ []) None) ∷ [])

-- addrmap d { reg { field { counter; saturate = 5; incrsaturate = 4; } f; } a; };
abbrev pub short_and_long : Source
short_and_long = source (
    item.Def (component kind.Addrmap (Some (name (codes "d") 8)) [] 8 (
    item.Def (component kind.Reg None [] 12 (
    item.Def (component kind.Field None [] 18 (
    item.Local (assign (name (codes "counter") 26) None None 26) ∷
    item.Local (assign (name (codes "saturate") 35) None (value (expr.Number 5 (at 46))) 35) ∷
    item.Local (assign (name (codes "incrsaturate") 49) None (value (expr.Number 4 (at 64))) 49) ∷ []) (Some (insts_of [] ((inst (name (codes "f") 69)) ∷ [])))) ∷ []) (Some (insts_of [] ((inst (name (codes "a") 74)) ∷ [])))) ∷ []) None) ∷ [])

-- addrmap d { reg R #(boolean hw = true) { field { precedence = hw; } f; field { precedence = sw; } g; field {} h; }; R a; };
abbrev pub sides : Source
sides = source (
    item.Def (component kind.Addrmap (Some (name (codes "d") 8)) [] 8 (
    item.Def (component kind.Reg (Some (name (codes "R") 16)) ((record { name = (name (codes "hw") 28); ptype = ptype.Flag; default = (Some (expr.Flag true (at 33))) }) ∷ []) 16 (
    item.Def (component kind.Field None [] 41 (
    item.Local (assign (name (codes "precedence") 49) None (value (expr.Ref (path_of ((step_to (name (codes "hw") 62) []) ∷ [])) None)) 49) ∷ []) (Some (insts_of [] ((inst (name (codes "f") 68)) ∷ [])))) ∷
    item.Def (component kind.Field None [] 71 (
    item.Local (assign (name (codes "precedence") 79) None (value (expr.Ref (path_of ((step_to (name (codes "sw") 92) []) ∷ [])) None)) 79) ∷ []) (Some (insts_of [] ((inst (name (codes "g") 98)) ∷ [])))) ∷
    item.Def (component kind.Field None [] 101 [] (Some (insts_of [] ((inst (name (codes "h") 110)) ∷ [])))) ∷ []) None) ∷
    item.Made None (name (codes "R") 116) (insts_of [] ((inst (name (codes "a") 118)) ∷ [])) ∷ []) None) ∷ [])

-- addrmap d { reg { regwidth = 8; field { counter = 2; anded = 0; incrwidth; donttest = 3; dontcompare = false; decrthreshold = 7; } f; field { counter; incrvalue; incrsaturate; decrsaturate = false; } g; } a; };
abbrev pub numbers_and_booleans : Source
numbers_and_booleans = source (
    item.Def (component kind.Addrmap (Some (name (codes "d") 8)) [] 8 (
    item.Def (component kind.Reg None [] 12 (
    item.Local (assign (name (codes "regwidth") 18) None (value (expr.Number 8 (at 29))) 18) ∷
    item.Def (component kind.Field None [] 32 (
    item.Local (assign (name (codes "counter") 40) None (value (expr.Number 2 (at 50))) 40) ∷
    item.Local (assign (name (codes "anded") 53) None (value (expr.Number 0 (at 61))) 53) ∷
    item.Local (assign (name (codes "incrwidth") 64) None None 64) ∷
    item.Local (assign (name (codes "donttest") 75) None (value (expr.Number 3 (at 86))) 75) ∷
    item.Local (assign (name (codes "dontcompare") 89) None (value (expr.Flag false (at 103))) 89) ∷
    item.Local (assign (name (codes "decrthreshold") 110) None (value (expr.Number 7 (at 126))) 110) ∷ []) (Some (insts_of [] ((inst (name (codes "f") 131)) ∷ [])))) ∷
    item.Def (component kind.Field None [] 134 (
    item.Local (assign (name (codes "counter") 142) None None 142) ∷
    item.Local (assign (name (codes "incrvalue") 151) None None 151) ∷
    item.Local (assign (name (codes "incrsaturate") 162) None None 162) ∷
    item.Local (assign (name (codes "decrsaturate") 176) None (value (expr.Flag false (at 191))) 176) ∷ []) (Some (insts_of [] ((inst (name (codes "g") 200)) ∷ [])))) ∷ []) (Some (insts_of [] ((inst (name (codes "a") 205)) ∷ [])))) ∷ []) None) ∷ [])

-- addrmap d { addressing = compact; reg { field { sw = wr; hw = wr; onwrite = wzt; onread = rset; } f; field { sw = rw1; hw = na; name = "a b"; } g; } a; };
abbrev pub words : Source
words = source (
    item.Def (component kind.Addrmap (Some (name (codes "d") 8)) [] 8 (
    item.Local (assign (name (codes "addressing") 12) None (word keyword.Compact) 12) ∷
    item.Def (component kind.Reg None [] 34 (
    item.Def (component kind.Field None [] 40 (
    item.Local (assign (name (codes "sw") 48) None (word keyword.Wr) 48) ∷
    item.Local (assign (name (codes "hw") 57) None (word keyword.Wr) 57) ∷
    item.Local (assign (name (codes "onwrite") 66) None (word keyword.Wzt) 66) ∷
    item.Local (assign (name (codes "onread") 81) None (word keyword.Rset) 81) ∷ []) (Some (insts_of [] ((inst (name (codes "f") 98)) ∷ [])))) ∷
    item.Def (component kind.Field None [] 101 (
    item.Local (assign (name (codes "sw") 109) None (word keyword.Rw1) 109) ∷
    item.Local (assign (name (codes "hw") 119) None (word keyword.Na) 119) ∷
    item.Local (assign (name (codes "name") 128) None (value (expr.Str (lend (codes "a b")) (at 135))) 128) ∷ []) (Some (insts_of [] ((inst (name (codes "g") 144)) ∷ [])))) ∷ []) (Some (insts_of [] ((inst (name (codes "a") 149)) ∷ [])))) ∷ []) None) ∷ [])

-- addrmap d { reg { field { intr; } f; field { posedge intr; } g; field { intr = 2; } h; field { nonsticky intr; } k; field { level intr; } l; field { bothedge intr; } m; field { negedge intr; } n; } a; };
abbrev pub interrupts : Source
interrupts = source (
    item.Def (component kind.Addrmap (Some (name (codes "d") 8)) [] 8 (
    item.Def (component kind.Reg None [] 12 (
    item.Def (component kind.Field None [] 18 (
    item.Local (assign (name (codes "intr") 26) None None 26) ∷ []) (Some (insts_of [] ((inst (name (codes "f") 34)) ∷ [])))) ∷
    item.Def (component kind.Field None [] 37 (
    item.Local (assign (name (codes "intr") 53) (Some trigger.Posedge) None 45) ∷ []) (Some (insts_of [] ((inst (name (codes "g") 61)) ∷ [])))) ∷
    item.Def (component kind.Field None [] 64 (
    item.Local (assign (name (codes "intr") 72) None (value (expr.Number 2 (at 79))) 72) ∷ []) (Some (insts_of [] ((inst (name (codes "h") 84)) ∷ [])))) ∷
    item.Def (component kind.Field None [] 87 (
    item.Local (assign (name (codes "intr") 105) (Some trigger.Nonsticky) None 95) ∷ []) (Some (insts_of [] ((inst (name (codes "k") 113)) ∷ [])))) ∷
    item.Def (component kind.Field None [] 116 (
    item.Local (assign (name (codes "intr") 130) (Some trigger.Level) None 124) ∷ []) (Some (insts_of [] ((inst (name (codes "l") 138)) ∷ [])))) ∷
    item.Def (component kind.Field None [] 141 (
    item.Local (assign (name (codes "intr") 158) (Some trigger.Bothedge) None 149) ∷ []) (Some (insts_of [] ((inst (name (codes "m") 166)) ∷ [])))) ∷
    item.Def (component kind.Field None [] 169 (
    item.Local (assign (name (codes "intr") 185) (Some trigger.Negedge) None 177) ∷ []) (Some (insts_of [] ((inst (name (codes "n") 193)) ∷ [])))) ∷ []) (Some (insts_of [] ((inst (name (codes "a") 198)) ∷ [])))) ∷ []) None) ∷ [])

-- addrmap d { reg { regwidth = 16; field {} f; } a; reg { regwidth = 64; accesswidth = 32; field {} f; } b; reg { field {} f; } c; };
abbrev pub accesswidths : Source
accesswidths = source (
    item.Def (component kind.Addrmap (Some (name (codes "d") 8)) [] 8 (
    item.Def (component kind.Reg None [] 12 (
    item.Local (assign (name (codes "regwidth") 18) None (value (expr.Number 16 (at 29))) 18) ∷
    item.Def (component kind.Field None [] 33 [] (Some (insts_of [] ((inst (name (codes "f") 42)) ∷ [])))) ∷ []) (Some (insts_of [] ((inst (name (codes "a") 47)) ∷ [])))) ∷
    item.Def (component kind.Reg None [] 50 (
    item.Local (assign (name (codes "regwidth") 56) None (value (expr.Number 64 (at 67))) 56) ∷
    item.Local (assign (name (codes "accesswidth") 71) None (value (expr.Number 32 (at 85))) 71) ∷
    item.Def (component kind.Field None [] 89 [] (Some (insts_of [] ((inst (name (codes "f") 98)) ∷ [])))) ∷ []) (Some (insts_of [] ((inst (name (codes "b") 103)) ∷ [])))) ∷
    item.Def (component kind.Reg None [] 106 (
    item.Def (component kind.Field None [] 112 [] (Some (insts_of [] ((inst (name (codes "f") 121)) ∷ [])))) ∷ []) (Some (insts_of [] ((inst (name (codes "c") 126)) ∷ [])))) ∷ []) None) ∷ [])

-- addrmap d { signal {} s; regfile { reg R { field {} f[4]; field { counter; } g[4]; f->next = g; g->incr = s; g->incrsaturate = f->ored; }; R a; } b; };
abbrev pub references : Source
references = source (
    item.Def (component kind.Addrmap (Some (name (codes "d") 8)) [] 8 (
    item.Def (component kind.Signal None [] 12 [] (Some (insts_of [] ((inst (name (codes "s") 22)) ∷ [])))) ∷
    item.Def (component kind.Regfile None [] 25 (
    item.Def (component kind.Reg (Some (name (codes "R") 39)) [] 39 (
    item.Def (component kind.Field None [] 43 [] (Some (insts_of [] ((record (inst (name (codes "f") 52)) { dims = lend ((expr.Number 4 (at 54)) ∷ []) }) ∷ [])))) ∷
    item.Def (component kind.Field None [] 58 (
    item.Local (assign (name (codes "counter") 66) None None 66) ∷ []) (Some (insts_of [] ((record (inst (name (codes "g") 77)) { dims = lend ((expr.Number 4 (at 79)) ∷ []) }) ∷ [])))) ∷
    item.Dynamic (path_of ((step_to (name (codes "f") 83) []) ∷ [])) (assign (name (codes "next") 86) None (value (expr.Ref (path_of ((step_to (name (codes "g") 93) []) ∷ [])) None)) 83) ∷
    item.Dynamic (path_of ((step_to (name (codes "g") 96) []) ∷ [])) (assign (name (codes "incr") 99) None (value (expr.Ref (path_of ((step_to (name (codes "s") 106) []) ∷ [])) None)) 96) ∷
    item.Dynamic (path_of ((step_to (name (codes "g") 109) []) ∷ [])) (assign (name (codes "incrsaturate") 112) None (value (expr.Ref (path_of ((step_to (name (codes "f") 127) []) ∷ [])) (Some (name (codes "ored") 130)))) 109) ∷ []) None) ∷
    item.Made None (name (codes "R") 139) (insts_of [] ((inst (name (codes "a") 141)) ∷ [])) ∷ []) (Some (insts_of [] ((inst (name (codes "b") 146)) ∷ [])))) ∷ []) None) ∷ [])

-- signal {} s; default hwclr = s; addrmap d { reg { field {} f; field { hwclr = false; } g; } a; };
abbrev pub default_reference : Source
default_reference = source (
    item.Def (component kind.Signal None [] 0 [] (Some (insts_of [] ((inst (name (codes "s") 10)) ∷ [])))) ∷
    item.Default (assign (name (codes "hwclr") 21) None (value (expr.Ref (path_of ((step_to (name (codes "s") 29) []) ∷ [])) None)) 13) ∷
    item.Def (component kind.Addrmap (Some (name (codes "d") 40)) [] 40 (
    item.Def (component kind.Reg None [] 44 (
    item.Def (component kind.Field None [] 50 [] (Some (insts_of [] ((inst (name (codes "f") 59)) ∷ [])))) ∷
    item.Def (component kind.Field None [] 62 (
    item.Local (assign (name (codes "hwclr") 70) None (value (expr.Flag false (at 78))) 70) ∷ []) (Some (insts_of [] ((inst (name (codes "g") 87)) ∷ [])))) ∷ []) (Some (insts_of [] ((inst (name (codes "a") 92)) ∷ [])))) ∷ []) None) ∷ [])

-- addrmap d { reg R #(longint unsigned W = 3, boolean t = false) { field { counter; incrvalue = W; hwset = t; decrvalue = V; } f; }; R a; };
abbrev pub parameters_and_references : Source
parameters_and_references = source (
    item.Def (component kind.Addrmap (Some (name (codes "d") 8)) [] 8 (
    item.Def (component kind.Reg (Some (name (codes "R") 16)) ((record { name = (name (codes "W") 37); ptype = ptype.Number; default = (Some (expr.Number 3 (at 41))) }) ∷ (record { name = (name (codes "t") 52); ptype = ptype.Flag; default = (Some (expr.Flag false (at 56))) }) ∷ []) 16 (
    item.Def (component kind.Field None [] 65 (
    item.Local (assign (name (codes "counter") 73) None None 73) ∷
    item.Local (assign (name (codes "incrvalue") 82) None (value (expr.Ref (path_of ((step_to (name (codes "W") 94) []) ∷ [])) None)) 82) ∷
    item.Local (assign (name (codes "hwset") 97) None (value (expr.Ref (path_of ((step_to (name (codes "t") 105) []) ∷ [])) None)) 97) ∷
    item.Local (assign (name (codes "decrvalue") 108) None (value (expr.Ref (path_of ((step_to (name (codes "V") 120) []) ∷ [])) None)) 108) ∷ []) (Some (insts_of [] ((inst (name (codes "f") 125)) ∷ [])))) ∷ []) None) ∷
    item.Made None (name (codes "R") 131) (insts_of [] ((inst (name (codes "a") 133)) ∷ [])) ∷ []) None) ∷ [])

-- addrmap d { enum E { A = 1; }; reg R #(longint unsigned E = 3) { field { encode = E; } f; }; R a; };
abbrev pub enums : Source
enums = source (
    item.Def (component kind.Addrmap (Some (name (codes "d") 8)) [] 8 (
    item.EnumDef (name (codes "E") 17) (lend ((record { name = (name (codes "A") 21); value = (Some (expr.Number 1 (at 25))); sets = lend [] }) ∷ [])) ∷
    item.Def (component kind.Reg (Some (name (codes "R") 35)) ((record { name = (name (codes "E") 56); ptype = ptype.Number; default = (Some (expr.Number 3 (at 60))) }) ∷ []) 35 (
    item.Def (component kind.Field None [] 65 (
    item.Local (assign (name (codes "encode") 73) None (value (expr.Ref (path_of ((step_to (name (codes "E") 82) []) ∷ [])) None)) 73) ∷ []) (Some (insts_of [] ((inst (name (codes "f") 87)) ∷ [])))) ∷ []) None) ∷
    item.Made None (name (codes "R") 93) (insts_of [] ((inst (name (codes "a") 95)) ∷ [])) ∷ []) None) ∷ [])

-- addrmap d { reg { field {} f; field {} g; } a[2]; a.f->sw = r; a[1].f->hw = r; a[0].g->sw = r; a[1].g->sw = w; };
abbrev pub elements : Source
elements = source (
    item.Def (component kind.Addrmap (Some (name (codes "d") 8)) [] 8 (
    item.Def (component kind.Reg None [] 12 (
    item.Def (component kind.Field None [] 18 [] (Some (insts_of [] ((inst (name (codes "f") 27)) ∷ [])))) ∷
    item.Def (component kind.Field None [] 30 [] (Some (insts_of [] ((inst (name (codes "g") 39)) ∷ [])))) ∷ []) (Some (insts_of [] ((record (inst (name (codes "a") 44)) { dims = lend ((expr.Number 2 (at 46)) ∷ []) }) ∷ [])))) ∷
    item.Dynamic (path_of ((step_to (name (codes "a") 50) []) ∷ (step_to (name (codes "f") 52) []) ∷ [])) (assign (name (codes "sw") 55) None (word keyword.R) 50) ∷
    item.Dynamic (path_of ((step_to (name (codes "a") 63) ((expr.Number 1 (at 65)) ∷ [])) ∷ (step_to (name (codes "f") 68) []) ∷ [])) (assign (name (codes "hw") 71) None (word keyword.R) 63) ∷
    item.Dynamic (path_of ((step_to (name (codes "a") 79) ((expr.Number 0 (at 81)) ∷ [])) ∷ (step_to (name (codes "g") 84) []) ∷ [])) (assign (name (codes "sw") 87) None (word keyword.R) 79) ∷
    item.Dynamic (path_of ((step_to (name (codes "a") 95) ((expr.Number 1 (at 97)) ∷ [])) ∷ (step_to (name (codes "g") 100) []) ∷ [])) (assign (name (codes "sw") 103) None (word keyword.W) 95) ∷ []) None) ∷ [])

-- addrmap d #(longint unsigned N = 1, longint unsigned a = 7) { reg { field {} f; } a[2][2]; a[N][0].f->sw = r; a[N].f->sw = w; a[2][0].f->sw = w; a[0][0][0].f->sw = w; a.q->sw = w; a.f[0]->sw = w; f->sw = r; };
abbrev pub two_dimensions : Source
two_dimensions = source (
    item.Def (component kind.Addrmap (Some (name (codes "d") 8)) ((record { name = (name (codes "N") 29); ptype = ptype.Number; default = (Some (expr.Number 1 (at 33))) }) ∷ (record { name = (name (codes "a") 53); ptype = ptype.Number; default = (Some (expr.Number 7 (at 57))) }) ∷ []) 8 (
    item.Def (component kind.Reg None [] 62 (
    item.Def (component kind.Field None [] 68 [] (Some (insts_of [] ((inst (name (codes "f") 77)) ∷ [])))) ∷ []) (Some (insts_of [] ((record (inst (name (codes "a") 82)) { dims = lend ((expr.Number 2 (at 84)) ∷ (expr.Number 2 (at 87)) ∷ []) }) ∷ [])))) ∷
    item.Dynamic (path_of ((step_to (name (codes "a") 91) ((expr.Ref (path_of ((step_to (name (codes "N") 93) []) ∷ [])) None) ∷ (expr.Number 0 (at 96)) ∷ [])) ∷ (step_to (name (codes "f") 99) []) ∷ [])) (assign (name (codes "sw") 102) None (word keyword.R) 91) ∷
    item.Dynamic (path_of ((step_to (name (codes "a") 110) ((expr.Ref (path_of ((step_to (name (codes "N") 112) []) ∷ [])) None) ∷ [])) ∷ (step_to (name (codes "f") 115) []) ∷ [])) (assign (name (codes "sw") 118) None (word keyword.W) 110) ∷
    item.Dynamic (path_of ((step_to (name (codes "a") 126) ((expr.Number 2 (at 128)) ∷ (expr.Number 0 (at 131)) ∷ [])) ∷ (step_to (name (codes "f") 134) []) ∷ [])) (assign (name (codes "sw") 137) None (word keyword.W) 126) ∷
    item.Dynamic (path_of ((step_to (name (codes "a") 145) ((expr.Number 0 (at 147)) ∷ (expr.Number 0 (at 150)) ∷ (expr.Number 0 (at 153)) ∷ [])) ∷ (step_to (name (codes "f") 156) []) ∷ [])) (assign (name (codes "sw") 159) None (word keyword.W) 145) ∷
    item.Dynamic (path_of ((step_to (name (codes "a") 167) []) ∷ (step_to (name (codes "q") 169) []) ∷ [])) (assign (name (codes "sw") 172) None (word keyword.W) 167) ∷
    item.Dynamic (path_of ((step_to (name (codes "a") 180) []) ∷ (step_to (name (codes "f") 182) ((expr.Number 0 (at 184)) ∷ [])) ∷ [])) (assign (name (codes "sw") 188) None (word keyword.W) 180) ∷
    item.Dynamic (path_of ((step_to (name (codes "f") 196) []) ∷ [])) (assign (name (codes "sw") 199) None (word keyword.R) 196) ∷ []) None) ∷ [])

-- addrmap d { reg { field {} f; } a[2]; a[0]->regwidth = 16; a->regwidth = 7; };
abbrev pub element_twice : Source
element_twice = source (
    item.Def (component kind.Addrmap (Some (name (codes "d") 8)) [] 8 (
    item.Def (component kind.Reg None [] 12 (
    item.Def (component kind.Field None [] 18 [] (Some (insts_of [] ((inst (name (codes "f") 27)) ∷ [])))) ∷ []) (Some (insts_of [] ((record (inst (name (codes "a") 32)) { dims = lend ((expr.Number 2 (at 34)) ∷ []) }) ∷ [])))) ∷
    item.Dynamic (path_of ((step_to (name (codes "a") 38) ((expr.Number 0 (at 40)) ∷ [])) ∷ [])) (assign (name (codes "regwidth") 44) None (value (expr.Number 16 (at 55))) 38) ∷
    item.Dynamic (path_of ((step_to (name (codes "a") 59) []) ∷ [])) (assign (name (codes "regwidth") 62) None (value (expr.Number 7 (at 73))) 59) ∷ []) None) ∷ [])

-- addrmap d { regfile { reg { field { woset; } f; f->woclr; } a; a.f->woset; } b; b.a.f->woset; b.a.f->woclr = false; };
abbrev pub bodies_apart : Source
bodies_apart = source (
    item.Def (component kind.Addrmap (Some (name (codes "d") 8)) [] 8 (
    item.Def (component kind.Regfile None [] 12 (
    item.Def (component kind.Reg None [] 22 (
    item.Def (component kind.Field None [] 28 (
    item.Local (assign (name (codes "woset") 36) None None 36) ∷ []) (Some (insts_of [] ((inst (name (codes "f") 45)) ∷ [])))) ∷
    item.Dynamic (path_of ((step_to (name (codes "f") 48) []) ∷ [])) (assign (name (codes "woclr") 51) None None 48) ∷ []) (Some (insts_of [] ((inst (name (codes "a") 60)) ∷ [])))) ∷
    item.Dynamic (path_of ((step_to (name (codes "a") 63) []) ∷ (step_to (name (codes "f") 65) []) ∷ [])) (assign (name (codes "woset") 68) None None 63) ∷ []) (Some (insts_of [] ((inst (name (codes "b") 77)) ∷ [])))) ∷
    item.Dynamic (path_of ((step_to (name (codes "b") 80) []) ∷ (step_to (name (codes "a") 82) []) ∷ (step_to (name (codes "f") 84) []) ∷ [])) (assign (name (codes "woset") 87) None None 80) ∷
    item.Dynamic (path_of ((step_to (name (codes "b") 94) []) ∷ (step_to (name (codes "a") 96) []) ∷ (step_to (name (codes "f") 98) []) ∷ [])) (assign (name (codes "woclr") 101) None (value (expr.Flag false (at 109))) 94) ∷ []) None) ∷ [])

-- addrmap t { reg { field { sw = r; sw = w; } f; } a; };
abbrev pub assigned_twice : Source
assigned_twice = source (
    item.Def (component kind.Addrmap (Some (name (codes "t") 8)) [] 8 (
    item.Def (component kind.Reg None [] 12 (
    item.Def (component kind.Field None [] 18 (
    item.Local (assign (name (codes "sw") 26) None (word keyword.R) 26) ∷
    item.Local (assign (name (codes "sw") 34) None (word keyword.W) 34) ∷ []) (Some (insts_of [] ((inst (name (codes "f") 44)) ∷ [])))) ∷ []) (Some (insts_of [] ((inst (name (codes "a") 49)) ∷ [])))) ∷ []) None) ∷ [])

-- addrmap q { reg { field { woset; woclr; } f; } a; };
abbrev pub exclusive : Source
exclusive = source (
    item.Def (component kind.Addrmap (Some (name (codes "q") 8)) [] 8 (
    item.Def (component kind.Reg None [] 12 (
    item.Def (component kind.Field None [] 18 (
    item.Local (assign (name (codes "woset") 26) None None 26) ∷
    item.Local (assign (name (codes "woclr") 33) None None 33) ∷ []) (Some (insts_of [] ((inst (name (codes "f") 42)) ∷ [])))) ∷ []) (Some (insts_of [] ((inst (name (codes "a") 47)) ∷ [])))) ∷ []) None) ∷ [])

-- addrmap q { reg { field { woset; woclr; woset; onwrite = wot; } f; } a; };
abbrev pub taken_thrice : Source
taken_thrice = source (
    item.Def (component kind.Addrmap (Some (name (codes "q") 8)) [] 8 (
    item.Def (component kind.Reg None [] 12 (
    item.Def (component kind.Field None [] 18 (
    item.Local (assign (name (codes "woset") 26) None None 26) ∷
    item.Local (assign (name (codes "woclr") 33) None None 33) ∷
    item.Local (assign (name (codes "woset") 40) None None 40) ∷
    item.Local (assign (name (codes "onwrite") 47) None (word keyword.Wot) 47) ∷ []) (Some (insts_of [] ((inst (name (codes "f") 64)) ∷ [])))) ∷ []) (Some (insts_of [] ((inst (name (codes "a") 69)) ∷ [])))) ∷ []) None) ∷ [])

-- addrmap d { default sw = r; default woset; reg { field {} f; } a; default sw = w; default woclr; };
abbrev pub defaults_twice : Source
defaults_twice = source (
    item.Def (component kind.Addrmap (Some (name (codes "d") 8)) [] 8 (
    item.Default (assign (name (codes "sw") 20) None (word keyword.R) 12) ∷
    item.Default (assign (name (codes "woset") 36) None None 28) ∷
    item.Def (component kind.Reg None [] 43 (
    item.Def (component kind.Field None [] 49 [] (Some (insts_of [] ((inst (name (codes "f") 58)) ∷ [])))) ∷ []) (Some (insts_of [] ((inst (name (codes "a") 63)) ∷ [])))) ∷
    item.Default (assign (name (codes "sw") 74) None (word keyword.W) 66) ∷
    item.Default (assign (name (codes "woclr") 90) None None 82) ∷ []) None) ∷ [])

-- addrmap d { reg { bogus = 1/0; ispresent = 1/0; posedge bogus; field { alignment = "x"; } f; field {} g; } a; a.g->bogus = a[1/0]; a[2/0].g->bogus = 3; a.z->bogus; default msb0; default \reg = 1; };
abbrev pub unknown_properties : Source
unknown_properties = source (
    item.Def (component kind.Addrmap (Some (name (codes "d") 8)) [] 8 (
    item.Def (component kind.Reg None [] 12 (
    item.Local (assign (name (codes "bogus") 18) None (value (expr.Binary op.Div (lend (expr.Number 1 (at 26))) (lend (expr.Number 0 (at 28))) (at 27))) 18) ∷
    item.Local (assign (name (codes "ispresent") 31) None (value (expr.Binary op.Div (lend (expr.Number 1 (at 43))) (lend (expr.Number 0 (at 45))) (at 44))) 31) ∷
    item.Local (assign (name (codes "bogus") 56) (Some trigger.Posedge) None 48) ∷
    item.Def (component kind.Field None [] 63 (
    item.Local (assign (name (codes "alignment") 71) None (value (expr.Str (lend (codes "x")) (at 83))) 71) ∷ []) (Some (insts_of [] ((inst (name (codes "f") 90)) ∷ [])))) ∷
    item.Def (component kind.Field None [] 93 [] (Some (insts_of [] ((inst (name (codes "g") 102)) ∷ [])))) ∷ []) (Some (insts_of [] ((inst (name (codes "a") 107)) ∷ [])))) ∷
    item.Dynamic (path_of ((step_to (name (codes "a") 110) []) ∷ (step_to (name (codes "g") 112) []) ∷ [])) (assign (name (codes "bogus") 115) None (value (expr.Ref (path_of ((step_to (name (codes "a") 123) ((expr.Binary op.Div (lend (expr.Number 1 (at 125))) (lend (expr.Number 0 (at 127))) (at 126)) ∷ [])) ∷ [])) None)) 110) ∷
    item.Dynamic (path_of ((step_to (name (codes "a") 131) ((expr.Binary op.Div (lend (expr.Number 2 (at 133))) (lend (expr.Number 0 (at 135))) (at 134)) ∷ [])) ∷ (step_to (name (codes "g") 138) []) ∷ [])) (assign (name (codes "bogus") 141) None (value (expr.Number 3 (at 149))) 131) ∷
    item.Dynamic (path_of ((step_to (name (codes "a") 152) []) ∷ (step_to (name (codes "z") 154) []) ∷ [])) (assign (name (codes "bogus") 157) None None 152) ∷
    item.Default (assign (name (codes "msb0") 172) None None 164) ∷
    item.Default (assign (name (codes "reg") 186) None (value (expr.Number 1 (at 193))) 178) ∷ []) None) ∷ [])

-- addrmap d { default woset; sw = r; reg { lsb0; field { addressing = compact; regwidth = 1/0; } f; } a; a->sw = r; a.f->regwidth = "x"; signal { name = "s"; donttest; } s; };
abbrev pub illegal : Source
illegal = source (
    item.Def (component kind.Addrmap (Some (name (codes "d") 8)) [] 8 (
    item.Default (assign (name (codes "woset") 20) None None 12) ∷
    item.Local (assign (name (codes "sw") 27) None (word keyword.R) 27) ∷
    item.Def (component kind.Reg None [] 35 (
    item.Local (assign (name (codes "lsb0") 41) None None 41) ∷
    item.Def (component kind.Field None [] 47 (
    item.Local (assign (name (codes "addressing") 55) None (word keyword.Compact) 55) ∷
    item.Local (assign (name (codes "regwidth") 77) None (value (expr.Binary op.Div (lend (expr.Number 1 (at 88))) (lend (expr.Number 0 (at 90))) (at 89))) 77) ∷ []) (Some (insts_of [] ((inst (name (codes "f") 95)) ∷ [])))) ∷ []) (Some (insts_of [] ((inst (name (codes "a") 100)) ∷ [])))) ∷
    item.Dynamic (path_of ((step_to (name (codes "a") 103) []) ∷ [])) (assign (name (codes "sw") 106) None (word keyword.R) 103) ∷
    item.Dynamic (path_of ((step_to (name (codes "a") 114) []) ∷ (step_to (name (codes "f") 116) []) ∷ [])) (assign (name (codes "regwidth") 119) None (value (expr.Str (lend (codes "x")) (at 130))) 114) ∷
    item.Def (component kind.Signal None [] 135 (
    item.Local (assign (name (codes "name") 144) None (value (expr.Str (lend (codes "s")) (at 151))) 144) ∷
    item.Local (assign (name (codes "donttest") 156) None None 156) ∷ []) (Some (insts_of [] ((inst (name (codes "s") 168)) ∷ [])))) ∷ []) None) ∷ [])

-- addrmap d { lsb0 = false; littleendian = 0; addressing = rw; reg { name = 3; desc; regwidth = "x"; field { sw = rclr; hw = rw1; onwrite = rclr; onread = woset; } f; field { next; enable = 1; reset = f; precedence = up; encode = 3; } g; field { sw = 1; hw = "rw"; swmod = rw; precedence; encode; } h; field { posedge sticky; level counter; reset = "1"; anded = "x"; incrsaturate = "x"; } k; } a; };
abbrev pub bad_values : Source
bad_values = source (
    item.Def (component kind.Addrmap (Some (name (codes "d") 8)) [] 8 (
    item.Local (assign (name (codes "lsb0") 12) None (value (expr.Flag false (at 19))) 12) ∷
    item.Local (assign (name (codes "littleendian") 26) None (value (expr.Number 0 (at 41))) 26) ∷
    item.Local (assign (name (codes "addressing") 44) None (word keyword.Rw) 44) ∷
    item.Def (component kind.Reg None [] 61 (
    item.Local (assign (name (codes "name") 67) None (value (expr.Number 3 (at 74))) 67) ∷
    item.Local (assign (name (codes "desc") 77) None None 77) ∷
    item.Local (assign (name (codes "regwidth") 83) None (value (expr.Str (lend (codes "x")) (at 94))) 83) ∷
    item.Def (component kind.Field None [] 99 (
    item.Local (assign (name (codes "sw") 107) None (word keyword.Rclr) 107) ∷
    item.Local (assign (name (codes "hw") 118) None (word keyword.Rw1) 118) ∷
    item.Local (assign (name (codes "onwrite") 128) None (word keyword.Rclr) 128) ∷
    item.Local (assign (name (codes "onread") 144) None (word keyword.Woset) 144) ∷ []) (Some (insts_of [] ((inst (name (codes "f") 162)) ∷ [])))) ∷
    item.Def (component kind.Field None [] 165 (
    item.Local (assign (name (codes "next") 173) None None 173) ∷
    item.Local (assign (name (codes "enable") 179) None (value (expr.Number 1 (at 188))) 179) ∷
    item.Local (assign (name (codes "reset") 191) None (value (expr.Ref (path_of ((step_to (name (codes "f") 199) []) ∷ [])) None)) 191) ∷
    item.Local (assign (name (codes "precedence") 202) None (value (expr.Ref (path_of ((step_to (name (codes "up") 215) []) ∷ [])) None)) 202) ∷
    item.Local (assign (name (codes "encode") 219) None (value (expr.Number 3 (at 228))) 219) ∷ []) (Some (insts_of [] ((inst (name (codes "g") 233)) ∷ [])))) ∷
    item.Def (component kind.Field None [] 236 (
    item.Local (assign (name (codes "sw") 244) None (value (expr.Number 1 (at 249))) 244) ∷
    item.Local (assign (name (codes "hw") 252) None (value (expr.Str (lend (codes "rw")) (at 257))) 252) ∷
    item.Local (assign (name (codes "swmod") 263) None (word keyword.Rw) 263) ∷
    item.Local (assign (name (codes "precedence") 275) None None 275) ∷
    item.Local (assign (name (codes "encode") 287) None None 287) ∷ []) (Some (insts_of [] ((inst (name (codes "h") 297)) ∷ [])))) ∷
    item.Def (component kind.Field None [] 300 (
    item.Local (assign (name (codes "sticky") 316) (Some trigger.Posedge) None 308) ∷
    item.Local (assign (name (codes "counter") 330) (Some trigger.Level) None 324) ∷
    item.Local (assign (name (codes "reset") 339) None (value (expr.Str (lend (codes "1")) (at 347))) 339) ∷
    item.Local (assign (name (codes "anded") 352) None (value (expr.Str (lend (codes "x")) (at 360))) 352) ∷
    item.Local (assign (name (codes "incrsaturate") 365) None (value (expr.Str (lend (codes "x")) (at 380))) 365) ∷ []) (Some (insts_of [] ((inst (name (codes "k") 387)) ∷ [])))) ∷ []) (Some (insts_of [] ((inst (name (codes "a") 392)) ∷ [])))) ∷ []) None) ∷ [])

-- addrmap d #(longint unsigned W = 4) { reg { field { next = W; reset = W[0]; counter; } f; } a; };
abbrev pub not_a_reference : Source
not_a_reference = source (
    item.Def (component kind.Addrmap (Some (name (codes "d") 8)) ((record { name = (name (codes "W") 29); ptype = ptype.Number; default = (Some (expr.Number 4 (at 33))) }) ∷ []) 8 (
    item.Def (component kind.Reg None [] 38 (
    item.Def (component kind.Field None [] 44 (
    item.Local (assign (name (codes "next") 52) None (value (expr.Ref (path_of ((step_to (name (codes "W") 59) []) ∷ [])) None)) 52) ∷
    item.Local (assign (name (codes "reset") 62) None (value (expr.Ref (path_of ((step_to (name (codes "W") 70) ((expr.Number 0 (at 72)) ∷ [])) ∷ [])) None)) 62) ∷
    item.Local (assign (name (codes "counter") 76) None None 76) ∷ []) (Some (insts_of [] ((inst (name (codes "f") 87)) ∷ [])))) ∷ []) (Some (insts_of [] ((inst (name (codes "a") 92)) ∷ [])))) ∷ []) None) ∷ [])

-- addrmap d { reg { regwidth = 8/0; field { sw = 1 + bogus; reset = 5 - 6; precedence = 1/0; encode = E::A; } f; field { name = 2 && "x"; incrvalue = f[1/0]; decrvalue = f["x"]; next = f[1/0].g[2/0]; } g; field { hwset = f[1/0] || true; } h; } a; a[1/0].f->sw = "x"; a["y"].f->hw = r; };
abbrev pub failing_values : Source
failing_values = source (
    item.Def (component kind.Addrmap (Some (name (codes "d") 8)) [] 8 (
    item.Def (component kind.Reg None [] 12 (
    item.Local (assign (name (codes "regwidth") 18) None (value (expr.Binary op.Div (lend (expr.Number 8 (at 29))) (lend (expr.Number 0 (at 31))) (at 30))) 18) ∷
    item.Def (component kind.Field None [] 34 (
    item.Local (assign (name (codes "sw") 42) None (value (expr.Binary op.Add (lend (expr.Number 1 (at 47))) (lend (expr.Ref (path_of ((step_to (name (codes "bogus") 51) []) ∷ [])) None)) (at 49))) 42) ∷
    item.Local (assign (name (codes "reset") 58) None (value (expr.Binary op.Sub (lend (expr.Number 5 (at 66))) (lend (expr.Number 6 (at 70))) (at 68))) 58) ∷
    item.Local (assign (name (codes "precedence") 73) None (value (expr.Binary op.Div (lend (expr.Number 1 (at 86))) (lend (expr.Number 0 (at 88))) (at 87))) 73) ∷
    item.Local (assign (name (codes "encode") 91) None (value (expr.EntryOf (name (codes "E") 100) (name (codes "A") 103))) 91) ∷ []) (Some (insts_of [] ((inst (name (codes "f") 108)) ∷ [])))) ∷
    item.Def (component kind.Field None [] 111 (
    item.Local (assign (name (codes "name") 119) None (value (expr.Binary op.AndAlso (lend (expr.Number 2 (at 126))) (lend (expr.Str (lend (codes "x")) (at 131))) (at 128))) 119) ∷
    item.Local (assign (name (codes "incrvalue") 136) None (value (expr.Ref (path_of ((step_to (name (codes "f") 148) ((expr.Binary op.Div (lend (expr.Number 1 (at 150))) (lend (expr.Number 0 (at 152))) (at 151)) ∷ [])) ∷ [])) None)) 136) ∷
    item.Local (assign (name (codes "decrvalue") 156) None (value (expr.Ref (path_of ((step_to (name (codes "f") 168) ((expr.Str (lend (codes "x")) (at 170)) ∷ [])) ∷ [])) None)) 156) ∷
    item.Local (assign (name (codes "next") 176) None (value (expr.Ref (path_of ((step_to (name (codes "f") 183) ((expr.Binary op.Div (lend (expr.Number 1 (at 185))) (lend (expr.Number 0 (at 187))) (at 186)) ∷ [])) ∷ (step_to (name (codes "g") 190) ((expr.Binary op.Div (lend (expr.Number 2 (at 192))) (lend (expr.Number 0 (at 194))) (at 193)) ∷ [])) ∷ [])) None)) 176) ∷ []) (Some (insts_of [] ((inst (name (codes "g") 200)) ∷ [])))) ∷
    item.Def (component kind.Field None [] 203 (
    item.Local (assign (name (codes "hwset") 211) None (value (expr.Binary op.OrElse (lend (expr.Ref (path_of ((step_to (name (codes "f") 219) ((expr.Binary op.Div (lend (expr.Number 1 (at 221))) (lend (expr.Number 0 (at 223))) (at 222)) ∷ [])) ∷ [])) None)) (lend (expr.Flag true (at 229))) (at 226))) 211) ∷ []) (Some (insts_of [] ((inst (name (codes "h") 237)) ∷ [])))) ∷ []) (Some (insts_of [] ((inst (name (codes "a") 242)) ∷ [])))) ∷
    item.Dynamic (path_of ((step_to (name (codes "a") 245) ((expr.Binary op.Div (lend (expr.Number 1 (at 247))) (lend (expr.Number 0 (at 249))) (at 248)) ∷ [])) ∷ (step_to (name (codes "f") 252) []) ∷ [])) (assign (name (codes "sw") 255) None (value (expr.Str (lend (codes "x")) (at 260))) 245) ∷
    item.Dynamic (path_of ((step_to (name (codes "a") 265) ((expr.Str (lend (codes "y")) (at 267)) ∷ [])) ∷ (step_to (name (codes "f") 272) []) ∷ [])) (assign (name (codes "hw") 275) None (word keyword.R) 265) ∷ []) None) ∷ [])

-- addrmap d { reg { field {} f; } a[2]; a[0].f->sw = r; a[1/0].f->sw = r; a[1/0].f->regwidth = 8; a.f->sw = w; };
abbrev pub failing_index : Source
failing_index = source (
    item.Def (component kind.Addrmap (Some (name (codes "d") 8)) [] 8 (
    item.Def (component kind.Reg None [] 12 (
    item.Def (component kind.Field None [] 18 [] (Some (insts_of [] ((inst (name (codes "f") 27)) ∷ [])))) ∷ []) (Some (insts_of [] ((record (inst (name (codes "a") 32)) { dims = lend ((expr.Number 2 (at 34)) ∷ []) }) ∷ [])))) ∷
    item.Dynamic (path_of ((step_to (name (codes "a") 38) ((expr.Number 0 (at 40)) ∷ [])) ∷ (step_to (name (codes "f") 43) []) ∷ [])) (assign (name (codes "sw") 46) None (word keyword.R) 38) ∷
    item.Dynamic (path_of ((step_to (name (codes "a") 54) ((expr.Binary op.Div (lend (expr.Number 1 (at 56))) (lend (expr.Number 0 (at 58))) (at 57)) ∷ [])) ∷ (step_to (name (codes "f") 61) []) ∷ [])) (assign (name (codes "sw") 64) None (word keyword.R) 54) ∷
    item.Dynamic (path_of ((step_to (name (codes "a") 72) ((expr.Binary op.Div (lend (expr.Number 1 (at 74))) (lend (expr.Number 0 (at 76))) (at 75)) ∷ [])) ∷ (step_to (name (codes "f") 79) []) ∷ [])) (assign (name (codes "regwidth") 82) None (value (expr.Number 8 (at 93))) 72) ∷
    item.Dynamic (path_of ((step_to (name (codes "a") 96) []) ∷ (step_to (name (codes "f") 98) []) ∷ [])) (assign (name (codes "sw") 101) None (word keyword.W) 96) ∷ []) None) ∷ [])

-- addrmap d { reg { field { sw = 1/0; sw = r; woset = "x"; woclr; } f; } a; };
abbrev pub failing_value_counts : Source
failing_value_counts = source (
    item.Def (component kind.Addrmap (Some (name (codes "d") 8)) [] 8 (
    item.Def (component kind.Reg None [] 12 (
    item.Def (component kind.Field None [] 18 (
    item.Local (assign (name (codes "sw") 26) None (value (expr.Binary op.Div (lend (expr.Number 1 (at 31))) (lend (expr.Number 0 (at 33))) (at 32))) 26) ∷
    item.Local (assign (name (codes "sw") 36) None (word keyword.R) 36) ∷
    item.Local (assign (name (codes "woset") 44) None (value (expr.Str (lend (codes "x")) (at 52))) 44) ∷
    item.Local (assign (name (codes "woclr") 57) None None 57) ∷ []) (Some (insts_of [] ((inst (name (codes "f") 66)) ∷ [])))) ∷ []) (Some (insts_of [] ((inst (name (codes "a") 71)) ∷ [])))) ∷ []) None) ∷ [])

-- addrmap d { reg { field { encode = E; } f; } a; enum E { A; }; reg { field { encode = E; } f; } b; default encode = F; };
abbrev pub enum_names : Source
enum_names = source (
    item.Def (component kind.Addrmap (Some (name (codes "d") 8)) [] 8 (
    item.Def (component kind.Reg None [] 12 (
    item.Def (component kind.Field None [] 18 (
    item.Local (assign (name (codes "encode") 26) None (value (expr.Ref (path_of ((step_to (name (codes "E") 35) []) ∷ [])) None)) 26) ∷ []) (Some (insts_of [] ((inst (name (codes "f") 40)) ∷ [])))) ∷ []) (Some (insts_of [] ((inst (name (codes "a") 45)) ∷ [])))) ∷
    item.EnumDef (name (codes "E") 53) (lend ((record { name = (name (codes "A") 57); value = None; sets = lend [] }) ∷ [])) ∷
    item.Def (component kind.Reg None [] 63 (
    item.Def (component kind.Field None [] 69 (
    item.Local (assign (name (codes "encode") 77) None (value (expr.Ref (path_of ((step_to (name (codes "E") 86) []) ∷ [])) None)) 77) ∷ []) (Some (insts_of [] ((inst (name (codes "f") 91)) ∷ [])))) ∷ []) (Some (insts_of [] ((inst (name (codes "b") 96)) ∷ [])))) ∷
    item.Default (assign (name (codes "encode") 107) None (value (expr.Ref (path_of ((step_to (name (codes "F") 116) []) ∷ [])) None)) 99) ∷ []) None) ∷ [])

-- addrmap d { enum E { A = 1 { name = "x"; desc = "y"; }; B { sw = r; name = 3; }; C { name = "x"; name = "y"; bogus; encode = X; msb0; level name; }; }; };
abbrev pub enum_entries : Source
enum_entries = source (
    item.Def (component kind.Addrmap (Some (name (codes "d") 8)) [] 8 (
    item.EnumDef (name (codes "E") 17) (lend ((record { name = (name (codes "A") 21); value = (Some (expr.Number 1 (at 25))); sets = lend (((assign (name (codes "name") 29) None (value (expr.Str (lend (codes "x")) (at 36))) 29)) ∷ ((assign (name (codes "desc") 41) None (value (expr.Str (lend (codes "y")) (at 48))) 41)) ∷ []) }) ∷ (record { name = (name (codes "B") 56); value = None; sets = lend (((assign (name (codes "sw") 60) None (word keyword.R) 60)) ∷ ((assign (name (codes "name") 68) None (value (expr.Number 3 (at 75))) 68)) ∷ []) }) ∷ (record { name = (name (codes "C") 81); value = None; sets = lend (((assign (name (codes "name") 85) None (value (expr.Str (lend (codes "x")) (at 92))) 85)) ∷ ((assign (name (codes "name") 97) None (value (expr.Str (lend (codes "y")) (at 104))) 97)) ∷ ((assign (name (codes "bogus") 109) None None 109)) ∷ ((assign (name (codes "encode") 116) None (value (expr.Ref (path_of ((step_to (name (codes "X") 125) []) ∷ [])) None)) 116)) ∷ ((assign (name (codes "msb0") 128) None None 128)) ∷ ((assign (name (codes "name") 140) (Some trigger.Level) None 134)) ∷ []) }) ∷ [])) ∷ []) None) ∷ [])

-- addrmap d { reg { regwidth = 7; field {} f; } a; reg { regwidth = 64; field {} f; } b; reg { regwidth = 16; accesswidth = 32; field {} f; } c; reg { accesswidth = 64; regwidth = 64; field {} f; } e; reg { regwidth; accesswidth = 8; field {} f; } g; reg { accesswidth = 8; field {} f; } h; };
abbrev pub register_widths : Source
register_widths = source (
    item.Def (component kind.Addrmap (Some (name (codes "d") 8)) [] 8 (
    item.Def (component kind.Reg None [] 12 (
    item.Local (assign (name (codes "regwidth") 18) None (value (expr.Number 7 (at 29))) 18) ∷
    item.Def (component kind.Field None [] 32 [] (Some (insts_of [] ((inst (name (codes "f") 41)) ∷ [])))) ∷ []) (Some (insts_of [] ((inst (name (codes "a") 46)) ∷ [])))) ∷
    item.Def (component kind.Reg None [] 49 (
    item.Local (assign (name (codes "regwidth") 55) None (value (expr.Number 64 (at 66))) 55) ∷
    item.Def (component kind.Field None [] 70 [] (Some (insts_of [] ((inst (name (codes "f") 79)) ∷ [])))) ∷ []) (Some (insts_of [] ((inst (name (codes "b") 84)) ∷ [])))) ∷
    item.Def (component kind.Reg None [] 87 (
    item.Local (assign (name (codes "regwidth") 93) None (value (expr.Number 16 (at 104))) 93) ∷
    item.Local (assign (name (codes "accesswidth") 108) None (value (expr.Number 32 (at 122))) 108) ∷
    item.Def (component kind.Field None [] 126 [] (Some (insts_of [] ((inst (name (codes "f") 135)) ∷ [])))) ∷ []) (Some (insts_of [] ((inst (name (codes "c") 140)) ∷ [])))) ∷
    item.Def (component kind.Reg None [] 143 (
    item.Local (assign (name (codes "accesswidth") 149) None (value (expr.Number 64 (at 163))) 149) ∷
    item.Local (assign (name (codes "regwidth") 167) None (value (expr.Number 64 (at 178))) 167) ∷
    item.Def (component kind.Field None [] 182 [] (Some (insts_of [] ((inst (name (codes "f") 191)) ∷ [])))) ∷ []) (Some (insts_of [] ((inst (name (codes "e") 196)) ∷ [])))) ∷
    item.Def (component kind.Reg None [] 199 (
    item.Local (assign (name (codes "regwidth") 205) None None 205) ∷
    item.Local (assign (name (codes "accesswidth") 215) None (value (expr.Number 8 (at 229))) 215) ∷
    item.Def (component kind.Field None [] 232 [] (Some (insts_of [] ((inst (name (codes "f") 241)) ∷ [])))) ∷ []) (Some (insts_of [] ((inst (name (codes "g") 246)) ∷ [])))) ∷
    item.Def (component kind.Reg None [] 249 (
    item.Local (assign (name (codes "accesswidth") 255) None (value (expr.Number 8 (at 269))) 255) ∷
    item.Def (component kind.Field None [] 272 [] (Some (insts_of [] ((inst (name (codes "f") 281)) ∷ [])))) ∷ []) (Some (insts_of [] ((inst (name (codes "h") 286)) ∷ [])))) ∷ []) None) ∷ [])

-- addrmap d { reg { regwidth = 8; regwidth = 7; field {} f; } a; reg { regwidth = 7/0; field {} f; } b; reg { regwidth = "7"; field {} f; } c; default accesswidth = 7; default accesswidth = 8; reg { field {} f; } e; };
abbrev pub widths_left_out : Source
widths_left_out = source (
    item.Def (component kind.Addrmap (Some (name (codes "d") 8)) [] 8 (
    item.Def (component kind.Reg None [] 12 (
    item.Local (assign (name (codes "regwidth") 18) None (value (expr.Number 8 (at 29))) 18) ∷
    item.Local (assign (name (codes "regwidth") 32) None (value (expr.Number 7 (at 43))) 32) ∷
    item.Def (component kind.Field None [] 46 [] (Some (insts_of [] ((inst (name (codes "f") 55)) ∷ [])))) ∷ []) (Some (insts_of [] ((inst (name (codes "a") 60)) ∷ [])))) ∷
    item.Def (component kind.Reg None [] 63 (
    item.Local (assign (name (codes "regwidth") 69) None (value (expr.Binary op.Div (lend (expr.Number 7 (at 80))) (lend (expr.Number 0 (at 82))) (at 81))) 69) ∷
    item.Def (component kind.Field None [] 85 [] (Some (insts_of [] ((inst (name (codes "f") 94)) ∷ [])))) ∷ []) (Some (insts_of [] ((inst (name (codes "b") 99)) ∷ [])))) ∷
    item.Def (component kind.Reg None [] 102 (
    item.Local (assign (name (codes "regwidth") 108) None (value (expr.Str (lend (codes "7")) (at 119))) 108) ∷
    item.Def (component kind.Field None [] 124 [] (Some (insts_of [] ((inst (name (codes "f") 133)) ∷ [])))) ∷ []) (Some (insts_of [] ((inst (name (codes "c") 138)) ∷ [])))) ∷
    item.Default (assign (name (codes "accesswidth") 149) None (value (expr.Number 7 (at 163))) 141) ∷
    item.Default (assign (name (codes "accesswidth") 174) None (value (expr.Number 8 (at 188))) 166) ∷
    item.Def (component kind.Reg None [] 191 (
    item.Def (component kind.Field None [] 197 [] (Some (insts_of [] ((inst (name (codes "f") 206)) ∷ [])))) ∷ []) (Some (insts_of [] ((inst (name (codes "e") 211)) ∷ [])))) ∷ []) None) ∷ [])

-- addrmap d { regfile G #(longint unsigned W = 8) { default regwidth = W; default regwidth = 16 / (W - 7); reg { field {} f; } a; }; G #(.W(7)) x; G y; };
abbrev pub widths_by_occurrence : Source
widths_by_occurrence = source (
    item.Def (component kind.Addrmap (Some (name (codes "d") 8)) [] 8 (
    item.Def (component kind.Regfile (Some (name (codes "G") 20)) ((record { name = (name (codes "W") 41); ptype = ptype.Number; default = (Some (expr.Number 8 (at 45))) }) ∷ []) 20 (
    item.Default (assign (name (codes "regwidth") 58) None (value (expr.Ref (path_of ((step_to (name (codes "W") 69) []) ∷ [])) None)) 50) ∷
    item.Default (assign (name (codes "regwidth") 80) None (value (expr.Binary op.Div (lend (expr.Number 16 (at 91))) (lend (expr.Binary op.Sub (lend (expr.Ref (path_of ((step_to (name (codes "W") 97) []) ∷ [])) None)) (lend (expr.Number 7 (at 101))) (at 99))) (at 94))) 72) ∷
    item.Def (component kind.Reg None [] 105 (
    item.Def (component kind.Field None [] 111 [] (Some (insts_of [] ((inst (name (codes "f") 120)) ∷ [])))) ∷ []) (Some (insts_of [] ((inst (name (codes "a") 125)) ∷ [])))) ∷ []) None) ∷
    item.Made None (name (codes "G") 131) (insts_of ((record { name = (name (codes "W") 136); value = (expr.Number 7 (at 138)) }) ∷ []) ((inst (name (codes "x") 142)) ∷ [])) ∷
    item.Made None (name (codes "G") 145) (insts_of [] ((inst (name (codes "y") 147)) ∷ [])) ∷ []) None) ∷ [])

-- addrmap d { reg { regwidth = 64; accesswidth = 32; field {} f[0]; field {} g[65]; field {} h[64]; field {} i[3:5]; field { fieldwidth = 4; } j[8]; field { fieldwidth = 4; } k; field { fieldwidth = 0; } l; field { fieldwidth = 3; } m[4:2]; field {} n[6:6]; } a; };
abbrev pub field_widths : Source
field_widths = source (
    item.Def (component kind.Addrmap (Some (name (codes "d") 8)) [] 8 (
    item.Def (component kind.Reg None [] 12 (
    item.Local (assign (name (codes "regwidth") 18) None (value (expr.Number 64 (at 29))) 18) ∷
    item.Local (assign (name (codes "accesswidth") 33) None (value (expr.Number 32 (at 47))) 33) ∷
    item.Def (component kind.Field None [] 51 [] (Some (insts_of [] ((record (inst (name (codes "f") 60)) { dims = lend ((expr.Number 0 (at 62)) ∷ []) }) ∷ [])))) ∷
    item.Def (component kind.Field None [] 66 [] (Some (insts_of [] ((record (inst (name (codes "g") 75)) { dims = lend ((expr.Number 65 (at 77)) ∷ []) }) ∷ [])))) ∷
    item.Def (component kind.Field None [] 82 [] (Some (insts_of [] ((record (inst (name (codes "h") 91)) { dims = lend ((expr.Number 64 (at 93)) ∷ []) }) ∷ [])))) ∷
    item.Def (component kind.Field None [] 98 [] (Some (insts_of [] ((record (inst (name (codes "i") 107)) { range = (Some (lend ((expr.Number 3 (at 109)), (expr.Number 5 (at 111))))) }) ∷ [])))) ∷
    item.Def (component kind.Field None [] 115 (
    item.Local (assign (name (codes "fieldwidth") 123) None (value (expr.Number 4 (at 136))) 123) ∷ []) (Some (insts_of [] ((record (inst (name (codes "j") 141)) { dims = lend ((expr.Number 8 (at 143)) ∷ []) }) ∷ [])))) ∷
    item.Def (component kind.Field None [] 147 (
    item.Local (assign (name (codes "fieldwidth") 155) None (value (expr.Number 4 (at 168))) 155) ∷ []) (Some (insts_of [] ((inst (name (codes "k") 173)) ∷ [])))) ∷
    item.Def (component kind.Field None [] 176 (
    item.Local (assign (name (codes "fieldwidth") 184) None (value (expr.Number 0 (at 197))) 184) ∷ []) (Some (insts_of [] ((inst (name (codes "l") 202)) ∷ [])))) ∷
    item.Def (component kind.Field None [] 205 (
    item.Local (assign (name (codes "fieldwidth") 213) None (value (expr.Number 3 (at 226))) 213) ∷ []) (Some (insts_of [] ((record (inst (name (codes "m") 231)) { range = (Some (lend ((expr.Number 4 (at 233)), (expr.Number 2 (at 235))))) }) ∷ [])))) ∷
    item.Def (component kind.Field None [] 239 [] (Some (insts_of [] ((record (inst (name (codes "n") 248)) { range = (Some (lend ((expr.Number 6 (at 250)), (expr.Number 6 (at 252))))) }) ∷ [])))) ∷ []) (Some (insts_of [] ((inst (name (codes "a") 258)) ∷ [])))) ∷ []) None) ∷ [])

-- addrmap d { default fieldwidth = 4; default signalwidth = 2; signal {} s[8]; signal {} t; signal { signalwidth = 8; } u[8]; reg { field {} f; field {} g[8]; field { fieldwidth = 8; } h[8]; } a; };
abbrev pub widths_by_default : Source
widths_by_default = source (
    item.Def (component kind.Addrmap (Some (name (codes "d") 8)) [] 8 (
    item.Default (assign (name (codes "fieldwidth") 20) None (value (expr.Number 4 (at 33))) 12) ∷
    item.Default (assign (name (codes "signalwidth") 44) None (value (expr.Number 2 (at 58))) 36) ∷
    item.Def (component kind.Signal None [] 61 [] (Some (insts_of [] ((record (inst (name (codes "s") 71)) { dims = lend ((expr.Number 8 (at 73)) ∷ []) }) ∷ [])))) ∷
    item.Def (component kind.Signal None [] 77 [] (Some (insts_of [] ((inst (name (codes "t") 87)) ∷ [])))) ∷
    item.Def (component kind.Signal None [] 90 (
    item.Local (assign (name (codes "signalwidth") 99) None (value (expr.Number 8 (at 113))) 99) ∷ []) (Some (insts_of [] ((record (inst (name (codes "u") 118)) { dims = lend ((expr.Number 8 (at 120)) ∷ []) }) ∷ [])))) ∷
    item.Def (component kind.Reg None [] 124 (
    item.Def (component kind.Field None [] 130 [] (Some (insts_of [] ((inst (name (codes "f") 139)) ∷ [])))) ∷
    item.Def (component kind.Field None [] 142 [] (Some (insts_of [] ((record (inst (name (codes "g") 151)) { dims = lend ((expr.Number 8 (at 153)) ∷ []) }) ∷ [])))) ∷
    item.Def (component kind.Field None [] 157 (
    item.Local (assign (name (codes "fieldwidth") 165) None (value (expr.Number 8 (at 178))) 165) ∷ []) (Some (insts_of [] ((record (inst (name (codes "h") 183)) { dims = lend ((expr.Number 8 (at 185)) ∷ []) }) ∷ [])))) ∷ []) (Some (insts_of [] ((inst (name (codes "a") 191)) ∷ [])))) ∷ []) None) ∷ [])

-- addrmap d { signal {} s[8]; reg { field {} f[8]; } a; signal {} t[0]; signal { signalwidth = 65; } u; };
abbrev pub widths_by_table : Source
widths_by_table = source (
    item.Def (component kind.Addrmap (Some (name (codes "d") 8)) [] 8 (
    item.Def (component kind.Signal None [] 12 [] (Some (insts_of [] ((record (inst (name (codes "s") 22)) { dims = lend ((expr.Number 8 (at 24)) ∷ []) }) ∷ [])))) ∷
    item.Def (component kind.Reg None [] 28 (
    item.Def (component kind.Field None [] 34 [] (Some (insts_of [] ((record (inst (name (codes "f") 43)) { dims = lend ((expr.Number 8 (at 45)) ∷ []) }) ∷ [])))) ∷ []) (Some (insts_of [] ((inst (name (codes "a") 51)) ∷ [])))) ∷
    item.Def (component kind.Signal None [] 54 [] (Some (insts_of [] ((record (inst (name (codes "t") 64)) { dims = lend ((expr.Number 0 (at 66)) ∷ []) }) ∷ [])))) ∷
    item.Def (component kind.Signal None [] 70 (
    item.Local (assign (name (codes "signalwidth") 79) None (value (expr.Number 65 (at 93))) 79) ∷ []) (Some (insts_of [] ((inst (name (codes "u") 99)) ∷ [])))) ∷ []) None) ∷ [])

-- addrmap d { reg { field { sw=rw; hw=r; } a; field { sw=r; hw=w; } b; field { sw=r; hw=r; } c; field { sw=r; hw=rw; } e; field { sw=r; hw=w; we; } f; field { sw=r; hw=w; hwset; } g; field { sw=r; hw=r; counter; } h; field { sw=r; hw=w; rclr; } i; field { sw=r; hw=w; intr; } j; field { sw=r; hw=w; nonsticky intr; } k; field { sw=w; hw=r; singlepulse; } l; field { sw=r; hw=na; hwclr; } m; field { sw=r; hw=w; we=false; rclr=false; } n; field { sw=r; hw=w; hwenable=z; } o; } r; signal {} z[14]; };
abbrev pub classes : Source
classes = source (
    item.Def (component kind.Addrmap (Some (name (codes "d") 8)) [] 8 (
    item.Def (component kind.Reg None [] 12 (
    item.Def (component kind.Field None [] 18 (
    item.Local (assign (name (codes "sw") 26) None (word keyword.Rw) 26) ∷
    item.Local (assign (name (codes "hw") 33) None (word keyword.R) 33) ∷ []) (Some (insts_of [] ((inst (name (codes "a") 41)) ∷ [])))) ∷
    item.Def (component kind.Field None [] 44 (
    item.Local (assign (name (codes "sw") 52) None (word keyword.R) 52) ∷
    item.Local (assign (name (codes "hw") 58) None (word keyword.W) 58) ∷ []) (Some (insts_of [] ((inst (name (codes "b") 66)) ∷ [])))) ∷
    item.Def (component kind.Field None [] 69 (
    item.Local (assign (name (codes "sw") 77) None (word keyword.R) 77) ∷
    item.Local (assign (name (codes "hw") 83) None (word keyword.R) 83) ∷ []) (Some (insts_of [] ((inst (name (codes "c") 91)) ∷ [])))) ∷
    item.Def (component kind.Field None [] 94 (
    item.Local (assign (name (codes "sw") 102) None (word keyword.R) 102) ∷
    item.Local (assign (name (codes "hw") 108) None (word keyword.Rw) 108) ∷ []) (Some (insts_of [] ((inst (name (codes "e") 117)) ∷ [])))) ∷
    item.Def (component kind.Field None [] 120 (
    item.Local (assign (name (codes "sw") 128) None (word keyword.R) 128) ∷
    item.Local (assign (name (codes "hw") 134) None (word keyword.W) 134) ∷
    item.Local (assign (name (codes "we") 140) None None 140) ∷ []) (Some (insts_of [] ((inst (name (codes "f") 146)) ∷ [])))) ∷
    item.Def (component kind.Field None [] 149 (
    item.Local (assign (name (codes "sw") 157) None (word keyword.R) 157) ∷
    item.Local (assign (name (codes "hw") 163) None (word keyword.W) 163) ∷
    item.Local (assign (name (codes "hwset") 169) None None 169) ∷ []) (Some (insts_of [] ((inst (name (codes "g") 178)) ∷ [])))) ∷
    item.Def (component kind.Field None [] 181 (
    item.Local (assign (name (codes "sw") 189) None (word keyword.R) 189) ∷
    item.Local (assign (name (codes "hw") 195) None (word keyword.R) 195) ∷
    item.Local (assign (name (codes "counter") 201) None None 201) ∷ []) (Some (insts_of [] ((inst (name (codes "h") 212)) ∷ [])))) ∷
    item.Def (component kind.Field None [] 215 (
    item.Local (assign (name (codes "sw") 223) None (word keyword.R) 223) ∷
    item.Local (assign (name (codes "hw") 229) None (word keyword.W) 229) ∷
    item.Local (assign (name (codes "rclr") 235) None None 235) ∷ []) (Some (insts_of [] ((inst (name (codes "i") 243)) ∷ [])))) ∷
    item.Def (component kind.Field None [] 246 (
    item.Local (assign (name (codes "sw") 254) None (word keyword.R) 254) ∷
    item.Local (assign (name (codes "hw") 260) None (word keyword.W) 260) ∷
    item.Local (assign (name (codes "intr") 266) None None 266) ∷ []) (Some (insts_of [] ((inst (name (codes "j") 274)) ∷ [])))) ∷
    item.Def (component kind.Field None [] 277 (
    item.Local (assign (name (codes "sw") 285) None (word keyword.R) 285) ∷
    item.Local (assign (name (codes "hw") 291) None (word keyword.W) 291) ∷
    item.Local (assign (name (codes "intr") 307) (Some trigger.Nonsticky) None 297) ∷ []) (Some (insts_of [] ((inst (name (codes "k") 315)) ∷ [])))) ∷
    item.Def (component kind.Field None [] 318 (
    item.Local (assign (name (codes "sw") 326) None (word keyword.W) 326) ∷
    item.Local (assign (name (codes "hw") 332) None (word keyword.R) 332) ∷
    item.Local (assign (name (codes "singlepulse") 338) None None 338) ∷ []) (Some (insts_of [] ((inst (name (codes "l") 353)) ∷ [])))) ∷
    item.Def (component kind.Field None [] 356 (
    item.Local (assign (name (codes "sw") 364) None (word keyword.R) 364) ∷
    item.Local (assign (name (codes "hw") 370) None (word keyword.Na) 370) ∷
    item.Local (assign (name (codes "hwclr") 377) None None 377) ∷ []) (Some (insts_of [] ((inst (name (codes "m") 386)) ∷ [])))) ∷
    item.Def (component kind.Field None [] 389 (
    item.Local (assign (name (codes "sw") 397) None (word keyword.R) 397) ∷
    item.Local (assign (name (codes "hw") 403) None (word keyword.W) 403) ∷
    item.Local (assign (name (codes "we") 409) None (value (expr.Flag false (at 412))) 409) ∷
    item.Local (assign (name (codes "rclr") 419) None (value (expr.Flag false (at 424))) 419) ∷ []) (Some (insts_of [] ((inst (name (codes "n") 433)) ∷ [])))) ∷
    item.Def (component kind.Field None [] 436 (
    item.Local (assign (name (codes "sw") 444) None (word keyword.R) 444) ∷
    item.Local (assign (name (codes "hw") 450) None (word keyword.W) 450) ∷
    item.Local (assign (name (codes "hwenable") 456) None (value (expr.Ref (path_of ((step_to (name (codes "z") 465) []) ∷ [])) None)) 456) ∷ []) (Some (insts_of [] ((inst (name (codes "o") 470)) ∷ [])))) ∷ []) (Some (insts_of [] ((inst (name (codes "r") 475)) ∷ [])))) ∷
    item.Def (component kind.Signal None [] 478 [] (Some (insts_of [] ((record (inst (name (codes "z") 488)) { dims = lend ((expr.Number 14 (at 490)) ∷ []) }) ∷ [])))) ∷ []) None) ∷ [])

-- addrmap d { reg P { field { sw=r; hw=w; } e; field { sw=r; hw=w; } g; }; reg Q { field { sw=r; rclr; } e; field { sw=r; counter; } g; }; P p; P o; alias p Q s; alias o Q t; regfile { P p; } f; };
abbrev pub alias_views : Source
alias_views = source (
    item.Def (component kind.Addrmap (Some (name (codes "d") 8)) [] 8 (
    item.Def (component kind.Reg (Some (name (codes "P") 16)) [] 16 (
    item.Def (component kind.Field None [] 20 (
    item.Local (assign (name (codes "sw") 28) None (word keyword.R) 28) ∷
    item.Local (assign (name (codes "hw") 34) None (word keyword.W) 34) ∷ []) (Some (insts_of [] ((inst (name (codes "e") 42)) ∷ [])))) ∷
    item.Def (component kind.Field None [] 45 (
    item.Local (assign (name (codes "sw") 53) None (word keyword.R) 53) ∷
    item.Local (assign (name (codes "hw") 59) None (word keyword.W) 59) ∷ []) (Some (insts_of [] ((inst (name (codes "g") 67)) ∷ [])))) ∷ []) None) ∷
    item.Def (component kind.Reg (Some (name (codes "Q") 77)) [] 77 (
    item.Def (component kind.Field None [] 81 (
    item.Local (assign (name (codes "sw") 89) None (word keyword.R) 89) ∷
    item.Local (assign (name (codes "rclr") 95) None None 95) ∷ []) (Some (insts_of [] ((inst (name (codes "e") 103)) ∷ [])))) ∷
    item.Def (component kind.Field None [] 106 (
    item.Local (assign (name (codes "sw") 114) None (word keyword.R) 114) ∷
    item.Local (assign (name (codes "counter") 120) None None 120) ∷ []) (Some (insts_of [] ((inst (name (codes "g") 131)) ∷ [])))) ∷ []) None) ∷
    item.Made None (name (codes "P") 137) (insts_of [] ((inst (name (codes "p") 139)) ∷ [])) ∷
    item.Made None (name (codes "P") 142) (insts_of [] ((inst (name (codes "o") 144)) ∷ [])) ∷
    item.Made (Some (name (codes "p") 153)) (name (codes "Q") 155) (insts_of [] ((inst (name (codes "s") 157)) ∷ [])) ∷
    item.Made (Some (name (codes "o") 166)) (name (codes "Q") 168) (insts_of [] ((inst (name (codes "t") 170)) ∷ [])) ∷
    item.Def (component kind.Regfile None [] 173 (
    item.Made None (name (codes "P") 183) (insts_of [] ((inst (name (codes "p") 185)) ∷ [])) ∷ []) (Some (insts_of [] ((inst (name (codes "f") 190)) ∷ [])))) ∷ []) None) ∷ [])

-- enum e { A = 1 { name = e::A; }; }; addrmap m { reg { field {} f; } a; };
abbrev pub enum_in_itself : Source
enum_in_itself = source (
    item.EnumDef (name (codes "e") 5) (lend ((record { name = (name (codes "A") 9); value = (Some (expr.Number 1 (at 13))); sets = lend (((assign (name (codes "name") 17) None (value (expr.EntryOf (name (codes "e") 24) (name (codes "A") 27))) 17)) ∷ []) }) ∷ [])) ∷
    item.Def (component kind.Addrmap (Some (name (codes "m") 44)) [] 44 (
    item.Def (component kind.Reg None [] 48 (
    item.Def (component kind.Field None [] 54 [] (Some (insts_of [] ((inst (name (codes "f") 63)) ∷ [])))) ∷ []) (Some (insts_of [] ((inst (name (codes "a") 68)) ∷ [])))) ∷ []) None) ∷ [])
