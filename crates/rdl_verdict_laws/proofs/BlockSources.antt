-- Sources whose blocks are read off.
use Rattle.std.proofs.Common.{true, false, [], ◌∷◌, None, Some, codes, false}
use Rattle.rdl_tree.specs.declared.item.Item.TheVariants as item
use Rattle.rdl_tree.specs.declared.item.Source.{Source}
use Rattle.rdl_tree.specs.declared.expr.Expr.TheVariants as expr
use Rattle.rdl_tree.specs.declared.item.Kind.TheVariants as kind
use Rattle.rdl_tree.specs.declared.item.PType.TheVariants as ptype
use Rattle.rb_base.specs.declared.trigger.Trigger.TheVariants as trigger
use Rattle.rdl_base.specs.declared.keyword.Keyword.TheVariants as keyword
use Rattle.rdl_verdict_laws.proofs.WorkedTrees.{lend, at, name, step_to, path_of, word, value, assign, inst, insts_of, component, source}

-- addrmap one { reg { field { sw=rw; hw=r; } f[32] = 32'h5; } a @0x0; };
abbrev pub one_register : Source
one_register = source (
    item.Def (component kind.Addrmap (Some (name (codes "one") 8)) [] 8 (
    item.Def (component kind.Reg None [] 14 (
    item.Def (component kind.Field None [] 20 (
    item.Local (assign (name (codes "sw") 28) None (word keyword.Rw) 28) ∷
    item.Local (assign (name (codes "hw") 35) None (word keyword.R) 35) ∷ []) (Some (insts_of [] ((record (inst (name (codes "f") 43)) { dims = lend ((expr.Number 32 (at 45)) ∷ []); reset = Some (lend (expr.Number 5 (at 51))) }) ∷ [])))) ∷ []) (Some (insts_of [] ((record (inst (name (codes "a") 60)) { at = Some (lend (expr.Number 0 (at 63))) }) ∷ [])))) ∷ []) None) ∷ [])

-- // Serial port
-- enum parity_t { NONE = 2'd0; EVEN = 2'd1 { name = "Even"; }; ODD = 2'd2; };
-- reg ier_t #(longint unsigned W = 8) {
--   name = "Interrupt enable";
--   field { sw = rw; hw = r; } en[W] = 0;
-- };
-- addrmap uart {
--   name = "UART"; desc = "Serial port";
--   default sw = rw; default hw = r;
--   reg { field { encode = parity_t; } parity[1:0] = 0; field {} stop2[2:2] = 0;
--         field {} loopback[3:3] = 0; field { singlepulse; } flush[8:8] = 0; } ctrl @0x00;
--   reg { field { sw = r; hw = w; } busy[0:0]; field { sw = r; hw = w; } level_[12:8]; } status @0x04;
--   reg { field { hw = w; posedge intr; woclr; } ev[4] = 0; } isr @0x08;
--   ier_t #(.W(4)) ier @0x0C;
--   isr.ev->enable = ier.en;
--   reg { field { sw = r; counter; incrsaturate; rclr; } errors[8] = 0; } stats @0x10;
--   reg { field { swmod; } div[16] = 16'd27; } baud[2] @0x14 += 4;
-- };
abbrev pub serial_port : Source
serial_port = source (
    item.EnumDef (name (codes "parity_t") 20) (lend ((record { name = (name (codes "NONE") 31); value = (Some (expr.Number 0 (at 38))); sets = lend [] }) ∷ (record { name = (name (codes "EVEN") 44); value = (Some (expr.Number 1 (at 51))); sets = lend (((assign (name (codes "name") 58) None (value (expr.Str (lend (codes "Even")) (at 65))) 58)) ∷ []) }) ∷ (record { name = (name (codes "ODD") 76); value = (Some (expr.Number 2 (at 82))); sets = lend [] }) ∷ [])) ∷
    item.Def (component kind.Reg (Some (name (codes "ier_t") 95)) ((record { name = (name (codes "W") 120); ptype = ptype.Number; default = (Some (expr.Number 8 (at 124))) }) ∷ []) 95 (
    item.Local (assign (name (codes "name") 131) None (value (expr.Str (lend (codes "Interrupt enable")) (at 138))) 131) ∷
    item.Def (component kind.Field None [] 160 (
    item.Local (assign (name (codes "sw") 168) None (word keyword.Rw) 168) ∷
    item.Local (assign (name (codes "hw") 177) None (word keyword.R) 177) ∷ []) (Some (insts_of [] ((record (inst (name (codes "en") 187)) { dims = lend ((expr.Ref (path_of ((step_to (name (codes "W") 190) []) ∷ [])) None) ∷ []); reset = Some (lend (expr.Number 0 (at 195))) }) ∷ [])))) ∷ []) None) ∷
    item.Def (component kind.Addrmap (Some (name (codes "uart") 209)) [] 209 (
    item.Local (assign (name (codes "name") 218) None (value (expr.Str (lend (codes "UART")) (at 225))) 218) ∷
    item.Local (assign (name (codes "desc") 233) None (value (expr.Str (lend (codes "Serial port")) (at 240))) 233) ∷
    item.Default (assign (name (codes "sw") 265) None (word keyword.Rw) 257) ∷
    item.Default (assign (name (codes "hw") 282) None (word keyword.R) 274) ∷
    item.Def (component kind.Reg None [] 292 (
    item.Def (component kind.Field None [] 298 (
    item.Local (assign (name (codes "encode") 306) None (value (expr.Ref (path_of ((step_to (name (codes "parity_t") 315) []) ∷ [])) None)) 306) ∷ []) (Some (insts_of [] ((record (inst (name (codes "parity") 327)) { range = (Some (lend ((expr.Number 1 (at 334)), (expr.Number 0 (at 336))))); reset = Some (lend (expr.Number 0 (at 341))) }) ∷ [])))) ∷
    item.Def (component kind.Field None [] 344 [] (Some (insts_of [] ((record (inst (name (codes "stop2") 353)) { range = (Some (lend ((expr.Number 2 (at 359)), (expr.Number 2 (at 361))))); reset = Some (lend (expr.Number 0 (at 366))) }) ∷ [])))) ∷
    item.Def (component kind.Field None [] 377 [] (Some (insts_of [] ((record (inst (name (codes "loopback") 386)) { range = (Some (lend ((expr.Number 3 (at 395)), (expr.Number 3 (at 397))))); reset = Some (lend (expr.Number 0 (at 402))) }) ∷ [])))) ∷
    item.Def (component kind.Field None [] 405 (
    item.Local (assign (name (codes "singlepulse") 413) None None 413) ∷ []) (Some (insts_of [] ((record (inst (name (codes "flush") 428)) { range = (Some (lend ((expr.Number 8 (at 434)), (expr.Number 8 (at 436))))); reset = Some (lend (expr.Number 0 (at 441))) }) ∷ [])))) ∷ []) (Some (insts_of [] ((record (inst (name (codes "ctrl") 446)) { at = Some (lend (expr.Number 0 (at 452))) }) ∷ [])))) ∷
    item.Def (component kind.Reg None [] 460 (
    item.Def (component kind.Field None [] 466 (
    item.Local (assign (name (codes "sw") 474) None (word keyword.R) 474) ∷
    item.Local (assign (name (codes "hw") 482) None (word keyword.W) 482) ∷ []) (Some (insts_of [] ((record (inst (name (codes "busy") 492)) { range = (Some (lend ((expr.Number 0 (at 497)), (expr.Number 0 (at 499))))) }) ∷ [])))) ∷
    item.Def (component kind.Field None [] 503 (
    item.Local (assign (name (codes "sw") 511) None (word keyword.R) 511) ∷
    item.Local (assign (name (codes "hw") 519) None (word keyword.W) 519) ∷ []) (Some (insts_of [] ((record (inst (name (codes "level_") 529)) { range = (Some (lend ((expr.Number 12 (at 536)), (expr.Number 8 (at 539))))) }) ∷ [])))) ∷ []) (Some (insts_of [] ((record (inst (name (codes "status") 545)) { at = Some (lend (expr.Number 4 (at 553))) }) ∷ [])))) ∷
    item.Def (component kind.Reg None [] 561 (
    item.Def (component kind.Field None [] 567 (
    item.Local (assign (name (codes "hw") 575) None (word keyword.W) 575) ∷
    item.Local (assign (name (codes "intr") 591) (Some trigger.Posedge) None 583) ∷
    item.Local (assign (name (codes "woclr") 597) None None 597) ∷ []) (Some (insts_of [] ((record (inst (name (codes "ev") 606)) { dims = lend ((expr.Number 4 (at 609)) ∷ []); reset = Some (lend (expr.Number 0 (at 614))) }) ∷ [])))) ∷ []) (Some (insts_of [] ((record (inst (name (codes "isr") 619)) { at = Some (lend (expr.Number 8 (at 624))) }) ∷ [])))) ∷
    item.Made None (name (codes "ier_t") 632) (insts_of ((record { name = (name (codes "W") 641); value = (expr.Number 4 (at 643)) }) ∷ []) ((record (inst (name (codes "ier") 647)) { at = Some (lend (expr.Number 12 (at 652))) }) ∷ [])) ∷
    item.Dynamic (path_of ((step_to (name (codes "isr") 660) []) ∷ (step_to (name (codes "ev") 664) []) ∷ [])) (assign (name (codes "enable") 668) None (value (expr.Ref (path_of ((step_to (name (codes "ier") 677) []) ∷ (step_to (name (codes "en") 681) []) ∷ [])) None)) 660) ∷
    item.Def (component kind.Reg None [] 687 (
    item.Def (component kind.Field None [] 693 (
    item.Local (assign (name (codes "sw") 701) None (word keyword.R) 701) ∷
    item.Local (assign (name (codes "counter") 709) None None 709) ∷
    item.Local (assign (name (codes "incrsaturate") 718) None None 718) ∷
    item.Local (assign (name (codes "rclr") 732) None None 732) ∷ []) (Some (insts_of [] ((record (inst (name (codes "errors") 740)) { dims = lend ((expr.Number 8 (at 747)) ∷ []); reset = Some (lend (expr.Number 0 (at 752))) }) ∷ [])))) ∷ []) (Some (insts_of [] ((record (inst (name (codes "stats") 757)) { at = Some (lend (expr.Number 16 (at 764))) }) ∷ [])))) ∷
    item.Def (component kind.Reg None [] 772 (
    item.Def (component kind.Field None [] 778 (
    item.Local (assign (name (codes "swmod") 786) None None 786) ∷ []) (Some (insts_of [] ((record (inst (name (codes "div") 795)) { dims = lend ((expr.Number 16 (at 799)) ∷ []); reset = Some (lend (expr.Number 27 (at 805))) }) ∷ [])))) ∷ []) (Some (insts_of [] ((record (inst (name (codes "baud") 815)) { dims = lend ((expr.Number 2 (at 820)) ∷ []); at = Some (lend (expr.Number 20 (at 824))); stride = Some (lend (expr.Number 4 (at 832))) }) ∷ [])))) ∷ []) None) ∷ [])

-- addrmap w { reg { regwidth=64; accesswidth=32; field { sw=r; hw=w; } f[39:20]; field { sw=rw; hw=r; } g[19:0] = 0; } a @0x10; };
abbrev pub wide_register : Source
wide_register = source (
    item.Def (component kind.Addrmap (Some (name (codes "w") 8)) [] 8 (
    item.Def (component kind.Reg None [] 12 (
    item.Local (assign (name (codes "regwidth") 18) None (value (expr.Number 64 (at 27))) 18) ∷
    item.Local (assign (name (codes "accesswidth") 31) None (value (expr.Number 32 (at 43))) 31) ∷
    item.Def (component kind.Field None [] 47 (
    item.Local (assign (name (codes "sw") 55) None (word keyword.R) 55) ∷
    item.Local (assign (name (codes "hw") 61) None (word keyword.W) 61) ∷ []) (Some (insts_of [] ((record (inst (name (codes "f") 69)) { range = (Some (lend ((expr.Number 39 (at 71)), (expr.Number 20 (at 74))))) }) ∷ [])))) ∷
    item.Def (component kind.Field None [] 79 (
    item.Local (assign (name (codes "sw") 87) None (word keyword.Rw) 87) ∷
    item.Local (assign (name (codes "hw") 94) None (word keyword.R) 94) ∷ []) (Some (insts_of [] ((record (inst (name (codes "g") 102)) { range = (Some (lend ((expr.Number 19 (at 104)), (expr.Number 0 (at 107))))); reset = Some (lend (expr.Number 0 (at 112))) }) ∷ [])))) ∷ []) (Some (insts_of [] ((record (inst (name (codes "a") 117)) { at = Some (lend (expr.Number 16 (at 120))) }) ∷ [])))) ∷ []) None) ∷ [])

-- signal { activelow; async; field_reset; } por; addrmap m { signal {} own; signal { activehigh; sync; field_reset; } near; reg R { field {} a = 0; field {} b = 0; b->resetsignal = own; }; R x; regfile { signal { async = false; activelow; field_reset; } inner; reg { field {} c = 0; } y; } z; };
abbrev pub many_resets : Source
many_resets = source (
    item.Def (component kind.Signal None [] 0 (
    item.Local (assign (name (codes "activelow") 9) None None 9) ∷
    item.Local (assign (name (codes "async") 20) None None 20) ∷
    item.Local (assign (name (codes "field_reset") 27) None None 27) ∷ []) (Some (insts_of [] ((inst (name (codes "por") 42)) ∷ [])))) ∷
    item.Def (component kind.Addrmap (Some (name (codes "m") 55)) [] 55 (
    item.Def (component kind.Signal None [] 59 [] (Some (insts_of [] ((inst (name (codes "own") 69)) ∷ [])))) ∷
    item.Def (component kind.Signal None [] 74 (
    item.Local (assign (name (codes "activehigh") 83) None None 83) ∷
    item.Local (assign (name (codes "sync") 95) None None 95) ∷
    item.Local (assign (name (codes "field_reset") 101) None None 101) ∷ []) (Some (insts_of [] ((inst (name (codes "near") 116)) ∷ [])))) ∷
    item.Def (component kind.Reg (Some (name (codes "R") 126)) [] 126 (
    item.Def (component kind.Field None [] 130 [] (Some (insts_of [] ((record (inst (name (codes "a") 139)) { reset = Some (lend (expr.Number 0 (at 143))) }) ∷ [])))) ∷
    item.Def (component kind.Field None [] 146 [] (Some (insts_of [] ((record (inst (name (codes "b") 155)) { reset = Some (lend (expr.Number 0 (at 159))) }) ∷ [])))) ∷
    item.Dynamic (path_of ((step_to (name (codes "b") 162) []) ∷ [])) (assign (name (codes "resetsignal") 165) None (value (expr.Ref (path_of ((step_to (name (codes "own") 179) []) ∷ [])) None)) 162) ∷ []) None) ∷
    item.Made None (name (codes "R") 187) (insts_of [] ((inst (name (codes "x") 189)) ∷ [])) ∷
    item.Def (component kind.Regfile None [] 192 (
    item.Def (component kind.Signal None [] 202 (
    item.Local (assign (name (codes "async") 211) None (value (expr.Flag false (at 219))) 211) ∷
    item.Local (assign (name (codes "activelow") 226) None None 226) ∷
    item.Local (assign (name (codes "field_reset") 237) None None 237) ∷ []) (Some (insts_of [] ((inst (name (codes "inner") 252)) ∷ [])))) ∷
    item.Def (component kind.Reg None [] 259 (
    item.Def (component kind.Field None [] 265 [] (Some (insts_of [] ((record (inst (name (codes "c") 274)) { reset = Some (lend (expr.Number 0 (at 278))) }) ∷ [])))) ∷ []) (Some (insts_of [] ((inst (name (codes "y") 283)) ∷ [])))) ∷ []) (Some (insts_of [] ((inst (name (codes "z") 288)) ∷ [])))) ∷ []) None) ∷ [])

-- signal { activelow; async; field_reset; } por; addrmap m { reg { field {} a = 0; } x; };
abbrev pub root_reset : Source
root_reset = source (
    item.Def (component kind.Signal None [] 0 (
    item.Local (assign (name (codes "activelow") 9) None None 9) ∷
    item.Local (assign (name (codes "async") 20) None None 20) ∷
    item.Local (assign (name (codes "field_reset") 27) None None 27) ∷ []) (Some (insts_of [] ((inst (name (codes "por") 42)) ∷ [])))) ∷
    item.Def (component kind.Addrmap (Some (name (codes "m") 55)) [] 55 (
    item.Def (component kind.Reg None [] 59 (
    item.Def (component kind.Field None [] 65 [] (Some (insts_of [] ((record (inst (name (codes "a") 74)) { reset = Some (lend (expr.Number 0 (at 78))) }) ∷ [])))) ∷ []) (Some (insts_of [] ((inst (name (codes "x") 83)) ∷ [])))) ∷ []) None) ∷ [])

-- addrmap c { reg { field { sw=rw; hw=r; } n[4] = 0; field { sw=r; hw=r; counter; incrwidth = 3; decrvalue = 2; incrsaturate; decrsaturate = 1; overflow; incrthreshold = 9; } a[4] = 0; field { sw=r; hw=w; counter; we; } b[4] = 0; b->incrvalue = n; b->incrsaturate = n; b->decr = n->ored; } x; };
abbrev pub counters : Source
counters = source (
    item.Def (component kind.Addrmap (Some (name (codes "c") 8)) [] 8 (
    item.Def (component kind.Reg None [] 12 (
    item.Def (component kind.Field None [] 18 (
    item.Local (assign (name (codes "sw") 26) None (word keyword.Rw) 26) ∷
    item.Local (assign (name (codes "hw") 33) None (word keyword.R) 33) ∷ []) (Some (insts_of [] ((record (inst (name (codes "n") 41)) { dims = lend ((expr.Number 4 (at 43)) ∷ []); reset = Some (lend (expr.Number 0 (at 48))) }) ∷ [])))) ∷
    item.Def (component kind.Field None [] 51 (
    item.Local (assign (name (codes "sw") 59) None (word keyword.R) 59) ∷
    item.Local (assign (name (codes "hw") 65) None (word keyword.R) 65) ∷
    item.Local (assign (name (codes "counter") 71) None None 71) ∷
    item.Local (assign (name (codes "incrwidth") 80) None (value (expr.Number 3 (at 92))) 80) ∷
    item.Local (assign (name (codes "decrvalue") 95) None (value (expr.Number 2 (at 107))) 95) ∷
    item.Local (assign (name (codes "incrsaturate") 110) None None 110) ∷
    item.Local (assign (name (codes "decrsaturate") 124) None (value (expr.Number 1 (at 139))) 124) ∷
    item.Local (assign (name (codes "overflow") 142) None None 142) ∷
    item.Local (assign (name (codes "incrthreshold") 152) None (value (expr.Number 9 (at 168))) 152) ∷ []) (Some (insts_of [] ((record (inst (name (codes "a") 173)) { dims = lend ((expr.Number 4 (at 175)) ∷ []); reset = Some (lend (expr.Number 0 (at 180))) }) ∷ [])))) ∷
    item.Def (component kind.Field None [] 183 (
    item.Local (assign (name (codes "sw") 191) None (word keyword.R) 191) ∷
    item.Local (assign (name (codes "hw") 197) None (word keyword.W) 197) ∷
    item.Local (assign (name (codes "counter") 203) None None 203) ∷
    item.Local (assign (name (codes "we") 212) None None 212) ∷ []) (Some (insts_of [] ((record (inst (name (codes "b") 218)) { dims = lend ((expr.Number 4 (at 220)) ∷ []); reset = Some (lend (expr.Number 0 (at 225))) }) ∷ [])))) ∷
    item.Dynamic (path_of ((step_to (name (codes "b") 228) []) ∷ [])) (assign (name (codes "incrvalue") 231) None (value (expr.Ref (path_of ((step_to (name (codes "n") 243) []) ∷ [])) None)) 228) ∷
    item.Dynamic (path_of ((step_to (name (codes "b") 246) []) ∷ [])) (assign (name (codes "incrsaturate") 249) None (value (expr.Ref (path_of ((step_to (name (codes "n") 264) []) ∷ [])) None)) 246) ∷
    item.Dynamic (path_of ((step_to (name (codes "b") 267) []) ∷ [])) (assign (name (codes "decr") 270) None (value (expr.Ref (path_of ((step_to (name (codes "n") 277) []) ∷ [])) (Some (name (codes "ored") 280)))) 267) ∷ []) (Some (insts_of [] ((inst (name (codes "x") 288)) ∷ [])))) ∷ []) None) ∷ [])

-- addrmap k { reg { field { sw=rw; hw=r; } lock = 0; field { sw=rw; hw=r; } d[8:1] = 0; d->swwel = lock; } a; };
abbrev pub locked : Source
locked = source (
    item.Def (component kind.Addrmap (Some (name (codes "k") 8)) [] 8 (
    item.Def (component kind.Reg None [] 12 (
    item.Def (component kind.Field None [] 18 (
    item.Local (assign (name (codes "sw") 26) None (word keyword.Rw) 26) ∷
    item.Local (assign (name (codes "hw") 33) None (word keyword.R) 33) ∷ []) (Some (insts_of [] ((record (inst (name (codes "lock") 41)) { reset = Some (lend (expr.Number 0 (at 48))) }) ∷ [])))) ∷
    item.Def (component kind.Field None [] 51 (
    item.Local (assign (name (codes "sw") 59) None (word keyword.Rw) 59) ∷
    item.Local (assign (name (codes "hw") 66) None (word keyword.R) 66) ∷ []) (Some (insts_of [] ((record (inst (name (codes "d") 74)) { range = (Some (lend ((expr.Number 8 (at 76)), (expr.Number 1 (at 78))))); reset = Some (lend (expr.Number 0 (at 83))) }) ∷ [])))) ∷
    item.Dynamic (path_of ((step_to (name (codes "d") 86) []) ∷ [])) (assign (name (codes "swwel") 89) None (value (expr.Ref (path_of ((step_to (name (codes "lock") 97) []) ∷ [])) None)) 86) ∷ []) (Some (insts_of [] ((inst (name (codes "a") 105)) ∷ [])))) ∷ []) None) ∷ [])

-- addrmap c { reg { field { sw=r; hw=rw; we; rclr; precedence = hw; } f[8] = 0x12; field { sw=w1; hw=r; onwrite = wot; } g = 0; } a; };
abbrev pub cleared_by_a_read : Source
cleared_by_a_read = source (
    item.Def (component kind.Addrmap (Some (name (codes "c") 8)) [] 8 (
    item.Def (component kind.Reg None [] 12 (
    item.Def (component kind.Field None [] 18 (
    item.Local (assign (name (codes "sw") 26) None (word keyword.R) 26) ∷
    item.Local (assign (name (codes "hw") 32) None (word keyword.Rw) 32) ∷
    item.Local (assign (name (codes "we") 39) None None 39) ∷
    item.Local (assign (name (codes "rclr") 43) None None 43) ∷
    item.Local (assign (name (codes "precedence") 49) None (value (expr.Ref (path_of ((step_to (name (codes "hw") 62) []) ∷ [])) None)) 49) ∷ []) (Some (insts_of [] ((record (inst (name (codes "f") 68)) { dims = lend ((expr.Number 8 (at 70)) ∷ []); reset = Some (lend (expr.Number 18 (at 75))) }) ∷ [])))) ∷
    item.Def (component kind.Field None [] 81 (
    item.Local (assign (name (codes "sw") 89) None (word keyword.W1) 89) ∷
    item.Local (assign (name (codes "hw") 96) None (word keyword.R) 96) ∷
    item.Local (assign (name (codes "onwrite") 102) None (word keyword.Wot) 102) ∷ []) (Some (insts_of [] ((record (inst (name (codes "g") 119)) { reset = Some (lend (expr.Number 0 (at 123))) }) ∷ [])))) ∷ []) (Some (insts_of [] ((inst (name (codes "a") 128)) ∷ [])))) ∷ []) None) ∷ [])

-- addrmap y { reg P { field { hw=w; sw=rw; intr; woclr; } e[4] = 0; }; reg Q { field { hw=w; sw=rw1; woset; } e[4]; }; P p; alias p Q s; };
abbrev pub with_alias : Source
with_alias = source (
    item.Def (component kind.Addrmap (Some (name (codes "y") 8)) [] 8 (
    item.Def (component kind.Reg (Some (name (codes "P") 16)) [] 16 (
    item.Def (component kind.Field None [] 20 (
    item.Local (assign (name (codes "hw") 28) None (word keyword.W) 28) ∷
    item.Local (assign (name (codes "sw") 34) None (word keyword.Rw) 34) ∷
    item.Local (assign (name (codes "intr") 41) None None 41) ∷
    item.Local (assign (name (codes "woclr") 47) None None 47) ∷ []) (Some (insts_of [] ((record (inst (name (codes "e") 56)) { dims = lend ((expr.Number 4 (at 58)) ∷ []); reset = Some (lend (expr.Number 0 (at 63))) }) ∷ [])))) ∷ []) None) ∷
    item.Def (component kind.Reg (Some (name (codes "Q") 73)) [] 73 (
    item.Def (component kind.Field None [] 77 (
    item.Local (assign (name (codes "hw") 85) None (word keyword.W) 85) ∷
    item.Local (assign (name (codes "sw") 91) None (word keyword.Rw1) 91) ∷
    item.Local (assign (name (codes "woset") 99) None None 99) ∷ []) (Some (insts_of [] ((record (inst (name (codes "e") 108)) { dims = lend ((expr.Number 4 (at 110)) ∷ []) }) ∷ [])))) ∷ []) None) ∷
    item.Made None (name (codes "P") 117) (insts_of [] ((inst (name (codes "p") 119)) ∷ [])) ∷
    item.Made (Some (name (codes "p") 128)) (name (codes "Q") 130) (insts_of [] ((inst (name (codes "s") 132)) ∷ [])) ∷ []) None) ∷ [])

-- signal {} s;
-- addrmap r {
--   signal { field_reset; activelow; async; } s; signal { signalwidth = 4; } en;
--   reg t {
--     regwidth = 64; accesswidth = 16;
--     field { sw=r; hw=w; } wi[4]; field { sw=rw; hw=w; posedge intr; woclr; sticky = false; } ev[4] = 0;
--     field { sw=r; hw=w; nonsticky intr; } ns[4]; field { sw=rw; hw=na; } cfg[4] = 3;
--     field { sw=r; hw=na; hwenable = cfg; } ko[4] = 5; field { sw=r; hw=r; hwset; } st;
--     field { sw=rw; hw=r; singlepulse; } pu = 0;
--     field { sw=r; hw=rw; counter; we; decrvalue = 2; decrsaturate; underflow; threshold = 3; } ct[2] = 1;
--     field { sw=r; hw=w; } nx[4]; field { sw=w; hw=r; } cm[27:24] = 0;
--   };
--   reg q {
--     regwidth = 64; accesswidth = 16;
--     field { sw=rw; swwel; } wi[3:0]; field { sw=rw1; onwrite = wset; } cfg[15:12] = 9;
--     field { sw=r; rclr; } pu[21:21]; field { sw=r; counter; intr; } st[20:20];
--   };
--   t p; alias p q x;
--   p.ev->enable = en; p.ev->haltmask = p.cfg; p.nx->next = en; p.ct->incr = p->halt; p.ev->sticky = true;
--   p.ko->hw = w; p.wi->hwclr = p.ev->ored; p.cfg->resetsignal = s;
-- };
abbrev pub many_kinds : Source
many_kinds = source (
    item.Def (component kind.Signal None [] 0 [] (Some (insts_of [] ((inst (name (codes "s") 10)) ∷ [])))) ∷
    item.Def (component kind.Addrmap (Some (name (codes "r") 21)) [] 21 (
    item.Def (component kind.Signal None [] 27 (
    item.Local (assign (name (codes "field_reset") 36) None None 36) ∷
    item.Local (assign (name (codes "activelow") 49) None None 49) ∷
    item.Local (assign (name (codes "async") 60) None None 60) ∷ []) (Some (insts_of [] ((inst (name (codes "s") 69)) ∷ [])))) ∷
    item.Def (component kind.Signal None [] 72 (
    item.Local (assign (name (codes "signalwidth") 81) None (value (expr.Number 4 (at 95))) 81) ∷ []) (Some (insts_of [] ((inst (name (codes "en") 100)) ∷ [])))) ∷
    item.Def (component kind.Reg (Some (name (codes "t") 110)) [] 110 (
    item.Local (assign (name (codes "regwidth") 118) None (value (expr.Number 64 (at 129))) 118) ∷
    item.Local (assign (name (codes "accesswidth") 133) None (value (expr.Number 16 (at 147))) 133) ∷
    item.Def (component kind.Field None [] 155 (
    item.Local (assign (name (codes "sw") 163) None (word keyword.R) 163) ∷
    item.Local (assign (name (codes "hw") 169) None (word keyword.W) 169) ∷ []) (Some (insts_of [] ((record (inst (name (codes "wi") 177)) { dims = lend ((expr.Number 4 (at 180)) ∷ []) }) ∷ [])))) ∷
    item.Def (component kind.Field None [] 184 (
    item.Local (assign (name (codes "sw") 192) None (word keyword.Rw) 192) ∷
    item.Local (assign (name (codes "hw") 199) None (word keyword.W) 199) ∷
    item.Local (assign (name (codes "intr") 213) (Some trigger.Posedge) None 205) ∷
    item.Local (assign (name (codes "woclr") 219) None None 219) ∷
    item.Local (assign (name (codes "sticky") 226) None (value (expr.Flag false (at 235))) 226) ∷ []) (Some (insts_of [] ((record (inst (name (codes "ev") 244)) { dims = lend ((expr.Number 4 (at 247)) ∷ []); reset = Some (lend (expr.Number 0 (at 252))) }) ∷ [])))) ∷
    item.Def (component kind.Field None [] 259 (
    item.Local (assign (name (codes "sw") 267) None (word keyword.R) 267) ∷
    item.Local (assign (name (codes "hw") 273) None (word keyword.W) 273) ∷
    item.Local (assign (name (codes "intr") 289) (Some trigger.Nonsticky) None 279) ∷ []) (Some (insts_of [] ((record (inst (name (codes "ns") 297)) { dims = lend ((expr.Number 4 (at 300)) ∷ []) }) ∷ [])))) ∷
    item.Def (component kind.Field None [] 304 (
    item.Local (assign (name (codes "sw") 312) None (word keyword.Rw) 312) ∷
    item.Local (assign (name (codes "hw") 319) None (word keyword.Na) 319) ∷ []) (Some (insts_of [] ((record (inst (name (codes "cfg") 328)) { dims = lend ((expr.Number 4 (at 332)) ∷ []); reset = Some (lend (expr.Number 3 (at 337))) }) ∷ [])))) ∷
    item.Def (component kind.Field None [] 344 (
    item.Local (assign (name (codes "sw") 352) None (word keyword.R) 352) ∷
    item.Local (assign (name (codes "hw") 358) None (word keyword.Na) 358) ∷
    item.Local (assign (name (codes "hwenable") 365) None (value (expr.Ref (path_of ((step_to (name (codes "cfg") 376) []) ∷ [])) None)) 365) ∷ []) (Some (insts_of [] ((record (inst (name (codes "ko") 383)) { dims = lend ((expr.Number 4 (at 386)) ∷ []); reset = Some (lend (expr.Number 5 (at 391))) }) ∷ [])))) ∷
    item.Def (component kind.Field None [] 394 (
    item.Local (assign (name (codes "sw") 402) None (word keyword.R) 402) ∷
    item.Local (assign (name (codes "hw") 408) None (word keyword.R) 408) ∷
    item.Local (assign (name (codes "hwset") 414) None None 414) ∷ []) (Some (insts_of [] ((inst (name (codes "st") 423)) ∷ [])))) ∷
    item.Def (component kind.Field None [] 431 (
    item.Local (assign (name (codes "sw") 439) None (word keyword.Rw) 439) ∷
    item.Local (assign (name (codes "hw") 446) None (word keyword.R) 446) ∷
    item.Local (assign (name (codes "singlepulse") 452) None None 452) ∷ []) (Some (insts_of [] ((record (inst (name (codes "pu") 467)) { reset = Some (lend (expr.Number 0 (at 472))) }) ∷ [])))) ∷
    item.Def (component kind.Field None [] 479 (
    item.Local (assign (name (codes "sw") 487) None (word keyword.R) 487) ∷
    item.Local (assign (name (codes "hw") 493) None (word keyword.Rw) 493) ∷
    item.Local (assign (name (codes "counter") 500) None None 500) ∷
    item.Local (assign (name (codes "we") 509) None None 509) ∷
    item.Local (assign (name (codes "decrvalue") 513) None (value (expr.Number 2 (at 525))) 513) ∷
    item.Local (assign (name (codes "decrsaturate") 528) None None 528) ∷
    item.Local (assign (name (codes "underflow") 542) None None 542) ∷
    item.Local (assign (name (codes "threshold") 553) None (value (expr.Number 3 (at 565))) 553) ∷ []) (Some (insts_of [] ((record (inst (name (codes "ct") 570)) { dims = lend ((expr.Number 2 (at 573)) ∷ []); reset = Some (lend (expr.Number 1 (at 578))) }) ∷ [])))) ∷
    item.Def (component kind.Field None [] 585 (
    item.Local (assign (name (codes "sw") 593) None (word keyword.R) 593) ∷
    item.Local (assign (name (codes "hw") 599) None (word keyword.W) 599) ∷ []) (Some (insts_of [] ((record (inst (name (codes "nx") 607)) { dims = lend ((expr.Number 4 (at 610)) ∷ []) }) ∷ [])))) ∷
    item.Def (component kind.Field None [] 614 (
    item.Local (assign (name (codes "sw") 622) None (word keyword.W) 622) ∷
    item.Local (assign (name (codes "hw") 628) None (word keyword.R) 628) ∷ []) (Some (insts_of [] ((record (inst (name (codes "cm") 636)) { range = (Some (lend ((expr.Number 27 (at 639)), (expr.Number 24 (at 642))))); reset = Some (lend (expr.Number 0 (at 648))) }) ∷ [])))) ∷ []) None) ∷
    item.Def (component kind.Reg (Some (name (codes "q") 662)) [] 662 (
    item.Local (assign (name (codes "regwidth") 670) None (value (expr.Number 64 (at 681))) 670) ∷
    item.Local (assign (name (codes "accesswidth") 685) None (value (expr.Number 16 (at 699))) 685) ∷
    item.Def (component kind.Field None [] 707 (
    item.Local (assign (name (codes "sw") 715) None (word keyword.Rw) 715) ∷
    item.Local (assign (name (codes "swwel") 722) None None 722) ∷ []) (Some (insts_of [] ((record (inst (name (codes "wi") 731)) { range = (Some (lend ((expr.Number 3 (at 734)), (expr.Number 0 (at 736))))) }) ∷ [])))) ∷
    item.Def (component kind.Field None [] 740 (
    item.Local (assign (name (codes "sw") 748) None (word keyword.Rw1) 748) ∷
    item.Local (assign (name (codes "onwrite") 756) None (word keyword.Wset) 756) ∷ []) (Some (insts_of [] ((record (inst (name (codes "cfg") 774)) { range = (Some (lend ((expr.Number 15 (at 778)), (expr.Number 12 (at 781))))); reset = Some (lend (expr.Number 9 (at 787))) }) ∷ [])))) ∷
    item.Def (component kind.Field None [] 794 (
    item.Local (assign (name (codes "sw") 802) None (word keyword.R) 802) ∷
    item.Local (assign (name (codes "rclr") 808) None None 808) ∷ []) (Some (insts_of [] ((record (inst (name (codes "pu") 816)) { range = (Some (lend ((expr.Number 21 (at 819)), (expr.Number 21 (at 822))))) }) ∷ [])))) ∷
    item.Def (component kind.Field None [] 827 (
    item.Local (assign (name (codes "sw") 835) None (word keyword.R) 835) ∷
    item.Local (assign (name (codes "counter") 841) None None 841) ∷
    item.Local (assign (name (codes "intr") 850) None None 850) ∷ []) (Some (insts_of [] ((record (inst (name (codes "st") 858)) { range = (Some (lend ((expr.Number 20 (at 861)), (expr.Number 20 (at 864))))) }) ∷ [])))) ∷ []) None) ∷
    item.Made None (name (codes "t") 876) (insts_of [] ((inst (name (codes "p") 878)) ∷ [])) ∷
    item.Made (Some (name (codes "p") 887)) (name (codes "q") 889) (insts_of [] ((inst (name (codes "x") 891)) ∷ [])) ∷
    item.Dynamic (path_of ((step_to (name (codes "p") 896) []) ∷ (step_to (name (codes "ev") 898) []) ∷ [])) (assign (name (codes "enable") 902) None (value (expr.Ref (path_of ((step_to (name (codes "en") 911) []) ∷ [])) None)) 896) ∷
    item.Dynamic (path_of ((step_to (name (codes "p") 915) []) ∷ (step_to (name (codes "ev") 917) []) ∷ [])) (assign (name (codes "haltmask") 921) None (value (expr.Ref (path_of ((step_to (name (codes "p") 932) []) ∷ (step_to (name (codes "cfg") 934) []) ∷ [])) None)) 915) ∷
    item.Dynamic (path_of ((step_to (name (codes "p") 939) []) ∷ (step_to (name (codes "nx") 941) []) ∷ [])) (assign (name (codes "next") 945) None (value (expr.Ref (path_of ((step_to (name (codes "en") 952) []) ∷ [])) None)) 939) ∷
    item.Dynamic (path_of ((step_to (name (codes "p") 956) []) ∷ (step_to (name (codes "ct") 958) []) ∷ [])) (assign (name (codes "incr") 962) None (value (expr.Ref (path_of ((step_to (name (codes "p") 969) []) ∷ [])) (Some (name (codes "halt") 972)))) 956) ∷
    item.Dynamic (path_of ((step_to (name (codes "p") 978) []) ∷ (step_to (name (codes "ev") 980) []) ∷ [])) (assign (name (codes "sticky") 984) None (value (expr.Flag true (at 993))) 978) ∷
    item.Dynamic (path_of ((step_to (name (codes "p") 1001) []) ∷ (step_to (name (codes "ko") 1003) []) ∷ [])) (assign (name (codes "hw") 1007) None (word keyword.W) 1001) ∷
    item.Dynamic (path_of ((step_to (name (codes "p") 1015) []) ∷ (step_to (name (codes "wi") 1017) []) ∷ [])) (assign (name (codes "hwclr") 1021) None (value (expr.Ref (path_of ((step_to (name (codes "p") 1029) []) ∷ (step_to (name (codes "ev") 1031) []) ∷ [])) (Some (name (codes "ored") 1035)))) 1015) ∷
    item.Dynamic (path_of ((step_to (name (codes "p") 1041) []) ∷ (step_to (name (codes "cfg") 1043) []) ∷ [])) (assign (name (codes "resetsignal") 1048) None (value (expr.Ref (path_of ((step_to (name (codes "s") 1062) []) ∷ [])) None)) 1041) ∷ []) None) ∷ [])
