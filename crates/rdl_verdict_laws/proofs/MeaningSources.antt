-- Sources on what settings mean.
use Rattle.std.proofs.Common.{[], ◌∷◌, None, Some, codes, false}
use Rattle.rdl_tree.specs.declared.item.Item.TheVariants as item
use Rattle.rdl_tree.specs.declared.item.Source.{Source}
use Rattle.rdl_tree.specs.declared.expr.Expr.TheVariants as expr
use Rattle.rdl_tree.specs.declared.item.Kind.TheVariants as kind
use Rattle.rb_base.specs.declared.trigger.Trigger.TheVariants as trigger
use Rattle.rdl_base.specs.declared.keyword.Keyword.TheVariants as keyword
use Rattle.rdl_verdict_laws.proofs.WorkedTrees.{lend, at, name, step_to, path_of, word, value, assign, inst, insts_of, component, source}

-- enum e3 { A = 4; }; addrmap m {
--   reg {
--     field { sw=w; hw=na; } a; field { sw=w1; hw=na; } b = 0; field { sw=r; hw=w; woset; } c; field { sw=w; hw=r; rclr; } d;
--     field { sw=rw; hw=r; we; } e; field { sw=r; hw=w; overflow; } f; field { sw=r; hw=w; counter; intr; } g;
--     field { sw=r; hw=w; sticky=false; } h; field { sw=r; hw=w; nonsticky intr; sticky; } i; field { sw=rw; hw=w; intr; we; } j;
--     field { sw=rw; hw=r; singlepulse; } k; field { sw=rw; hw=r; } l[2] = 4; field { sw=rw1; hw=r; } n;
--     field { sw=r; hw=r; counter; incrwidth=9; } o[8] = 0;
--   } x;
--   reg { accesswidth=8; field {} p[11:4]; field { sw=r; hw=w; } q[23:12]; } y;
--   reg { field { encode=e3; } t[2]; } z;
--   reg {} u;
--   regfile { signal {} t; } v;
-- };
abbrev pub field_rules : Source
field_rules = source (
    item.EnumDef (name (codes "e3") 5) (lend ((record { name = (name (codes "A") 10); value = (Some (expr.Number 4 (at 14))); sets = lend [] }) ∷ [])) ∷
    item.Def (component kind.Addrmap (Some (name (codes "m") 28)) [] 28 (
    item.Def (component kind.Reg None [] 34 (
    item.Def (component kind.Field None [] 44 (
    item.Local (assign (name (codes "sw") 52) None (word keyword.W) 52) ∷
    item.Local (assign (name (codes "hw") 58) None (word keyword.Na) 58) ∷ []) (Some (insts_of [] ((inst (name (codes "a") 67)) ∷ [])))) ∷
    item.Def (component kind.Field None [] 70 (
    item.Local (assign (name (codes "sw") 78) None (word keyword.W1) 78) ∷
    item.Local (assign (name (codes "hw") 85) None (word keyword.Na) 85) ∷ []) (Some (insts_of [] ((record (inst (name (codes "b") 94)) { reset = Some (lend (expr.Number 0 (at 98))) }) ∷ [])))) ∷
    item.Def (component kind.Field None [] 101 (
    item.Local (assign (name (codes "sw") 109) None (word keyword.R) 109) ∷
    item.Local (assign (name (codes "hw") 115) None (word keyword.W) 115) ∷
    item.Local (assign (name (codes "woset") 121) None None 121) ∷ []) (Some (insts_of [] ((inst (name (codes "c") 130)) ∷ [])))) ∷
    item.Def (component kind.Field None [] 133 (
    item.Local (assign (name (codes "sw") 141) None (word keyword.W) 141) ∷
    item.Local (assign (name (codes "hw") 147) None (word keyword.R) 147) ∷
    item.Local (assign (name (codes "rclr") 153) None None 153) ∷ []) (Some (insts_of [] ((inst (name (codes "d") 161)) ∷ [])))) ∷
    item.Def (component kind.Field None [] 168 (
    item.Local (assign (name (codes "sw") 176) None (word keyword.Rw) 176) ∷
    item.Local (assign (name (codes "hw") 183) None (word keyword.R) 183) ∷
    item.Local (assign (name (codes "we") 189) None None 189) ∷ []) (Some (insts_of [] ((inst (name (codes "e") 195)) ∷ [])))) ∷
    item.Def (component kind.Field None [] 198 (
    item.Local (assign (name (codes "sw") 206) None (word keyword.R) 206) ∷
    item.Local (assign (name (codes "hw") 212) None (word keyword.W) 212) ∷
    item.Local (assign (name (codes "overflow") 218) None None 218) ∷ []) (Some (insts_of [] ((inst (name (codes "f") 230)) ∷ [])))) ∷
    item.Def (component kind.Field None [] 233 (
    item.Local (assign (name (codes "sw") 241) None (word keyword.R) 241) ∷
    item.Local (assign (name (codes "hw") 247) None (word keyword.W) 247) ∷
    item.Local (assign (name (codes "counter") 253) None None 253) ∷
    item.Local (assign (name (codes "intr") 262) None None 262) ∷ []) (Some (insts_of [] ((inst (name (codes "g") 270)) ∷ [])))) ∷
    item.Def (component kind.Field None [] 277 (
    item.Local (assign (name (codes "sw") 285) None (word keyword.R) 285) ∷
    item.Local (assign (name (codes "hw") 291) None (word keyword.W) 291) ∷
    item.Local (assign (name (codes "sticky") 297) None (value (expr.Flag false (at 304))) 297) ∷ []) (Some (insts_of [] ((inst (name (codes "h") 313)) ∷ [])))) ∷
    item.Def (component kind.Field None [] 316 (
    item.Local (assign (name (codes "sw") 324) None (word keyword.R) 324) ∷
    item.Local (assign (name (codes "hw") 330) None (word keyword.W) 330) ∷
    item.Local (assign (name (codes "intr") 346) (Some trigger.Nonsticky) None 336) ∷
    item.Local (assign (name (codes "sticky") 352) None None 352) ∷ []) (Some (insts_of [] ((inst (name (codes "i") 362)) ∷ [])))) ∷
    item.Def (component kind.Field None [] 365 (
    item.Local (assign (name (codes "sw") 373) None (word keyword.Rw) 373) ∷
    item.Local (assign (name (codes "hw") 380) None (word keyword.W) 380) ∷
    item.Local (assign (name (codes "intr") 386) None None 386) ∷
    item.Local (assign (name (codes "we") 392) None None 392) ∷ []) (Some (insts_of [] ((inst (name (codes "j") 398)) ∷ [])))) ∷
    item.Def (component kind.Field None [] 405 (
    item.Local (assign (name (codes "sw") 413) None (word keyword.Rw) 413) ∷
    item.Local (assign (name (codes "hw") 420) None (word keyword.R) 420) ∷
    item.Local (assign (name (codes "singlepulse") 426) None None 426) ∷ []) (Some (insts_of [] ((inst (name (codes "k") 441)) ∷ [])))) ∷
    item.Def (component kind.Field None [] 444 (
    item.Local (assign (name (codes "sw") 452) None (word keyword.Rw) 452) ∷
    item.Local (assign (name (codes "hw") 459) None (word keyword.R) 459) ∷ []) (Some (insts_of [] ((record (inst (name (codes "l") 467)) { dims = lend ((expr.Number 2 (at 469)) ∷ []); reset = Some (lend (expr.Number 4 (at 474))) }) ∷ [])))) ∷
    item.Def (component kind.Field None [] 477 (
    item.Local (assign (name (codes "sw") 485) None (word keyword.Rw1) 485) ∷
    item.Local (assign (name (codes "hw") 493) None (word keyword.R) 493) ∷ []) (Some (insts_of [] ((inst (name (codes "n") 501)) ∷ [])))) ∷
    item.Def (component kind.Field None [] 508 (
    item.Local (assign (name (codes "sw") 516) None (word keyword.R) 516) ∷
    item.Local (assign (name (codes "hw") 522) None (word keyword.R) 522) ∷
    item.Local (assign (name (codes "counter") 528) None None 528) ∷
    item.Local (assign (name (codes "incrwidth") 537) None (value (expr.Number 9 (at 547))) 537) ∷ []) (Some (insts_of [] ((record (inst (name (codes "o") 552)) { dims = lend ((expr.Number 8 (at 554)) ∷ []); reset = Some (lend (expr.Number 0 (at 559))) }) ∷ [])))) ∷ []) (Some (insts_of [] ((inst (name (codes "x") 566)) ∷ [])))) ∷
    item.Def (component kind.Reg None [] 571 (
    item.Local (assign (name (codes "accesswidth") 577) None (value (expr.Number 8 (at 589))) 577) ∷
    item.Def (component kind.Field None [] 592 [] (Some (insts_of [] ((record (inst (name (codes "p") 601)) { range = (Some (lend ((expr.Number 11 (at 603)), (expr.Number 4 (at 606))))) }) ∷ [])))) ∷
    item.Def (component kind.Field None [] 610 (
    item.Local (assign (name (codes "sw") 618) None (word keyword.R) 618) ∷
    item.Local (assign (name (codes "hw") 624) None (word keyword.W) 624) ∷ []) (Some (insts_of [] ((record (inst (name (codes "q") 632)) { range = (Some (lend ((expr.Number 23 (at 634)), (expr.Number 12 (at 637))))) }) ∷ [])))) ∷ []) (Some (insts_of [] ((inst (name (codes "y") 644)) ∷ [])))) ∷
    item.Def (component kind.Reg None [] 649 (
    item.Def (component kind.Field None [] 655 (
    item.Local (assign (name (codes "encode") 663) None (value (expr.Ref (path_of ((step_to (name (codes "e3") 670) []) ∷ [])) None)) 663) ∷ []) (Some (insts_of [] ((record (inst (name (codes "t") 676)) { dims = lend ((expr.Number 2 (at 678)) ∷ []) }) ∷ [])))) ∷ []) (Some (insts_of [] ((inst (name (codes "z") 684)) ∷ [])))) ∷
    item.Def (component kind.Reg None [] 689 [] (Some (insts_of [] ((inst (name (codes "u") 696)) ∷ [])))) ∷
    item.Def (component kind.Regfile None [] 701 (
    item.Def (component kind.Signal None [] 711 [] (Some (insts_of [] ((inst (name (codes "t") 721)) ∷ [])))) ∷ []) (Some (insts_of [] ((inst (name (codes "v") 726)) ∷ [])))) ∷ []) None) ∷ [])

-- addrmap m {
--   signal {} s4[4]; signal { field_reset; } fr[2]; signal { field_reset; } second;
--   reg {
--     field {} a[2]; field {} b[4]; b->next = a; field {} c; c->we = a;
--     field { sw=r; hw=r; counter; } d[2]; d->incrvalue = b; field { sw=r; hw=r; counter; } e[4]; e->incrvalue = a;
--     field {} f = 0; f->resetsignal = s4; field {} g; g->we = a->overflow; g->hwset = x->intr; g->hwclr = d->overflow;
--   } x;
-- };
abbrev pub reference_rules : Source
reference_rules = source (
    item.Def (component kind.Addrmap (Some (name (codes "m") 8)) [] 8 (
    item.Def (component kind.Signal None [] 14 [] (Some (insts_of [] ((record (inst (name (codes "s4") 24)) { dims = lend ((expr.Number 4 (at 27)) ∷ []) }) ∷ [])))) ∷
    item.Def (component kind.Signal None [] 31 (
    item.Local (assign (name (codes "field_reset") 40) None None 40) ∷ []) (Some (insts_of [] ((record (inst (name (codes "fr") 55)) { dims = lend ((expr.Number 2 (at 58)) ∷ []) }) ∷ [])))) ∷
    item.Def (component kind.Signal None [] 62 (
    item.Local (assign (name (codes "field_reset") 71) None None 71) ∷ []) (Some (insts_of [] ((inst (name (codes "second") 86)) ∷ [])))) ∷
    item.Def (component kind.Reg None [] 96 (
    item.Def (component kind.Field None [] 106 [] (Some (insts_of [] ((record (inst (name (codes "a") 115)) { dims = lend ((expr.Number 2 (at 117)) ∷ []) }) ∷ [])))) ∷
    item.Def (component kind.Field None [] 121 [] (Some (insts_of [] ((record (inst (name (codes "b") 130)) { dims = lend ((expr.Number 4 (at 132)) ∷ []) }) ∷ [])))) ∷
    item.Dynamic (path_of ((step_to (name (codes "b") 136) []) ∷ [])) (assign (name (codes "next") 139) None (value (expr.Ref (path_of ((step_to (name (codes "a") 146) []) ∷ [])) None)) 136) ∷
    item.Def (component kind.Field None [] 149 [] (Some (insts_of [] ((inst (name (codes "c") 158)) ∷ [])))) ∷
    item.Dynamic (path_of ((step_to (name (codes "c") 161) []) ∷ [])) (assign (name (codes "we") 164) None (value (expr.Ref (path_of ((step_to (name (codes "a") 169) []) ∷ [])) None)) 161) ∷
    item.Def (component kind.Field None [] 176 (
    item.Local (assign (name (codes "sw") 184) None (word keyword.R) 184) ∷
    item.Local (assign (name (codes "hw") 190) None (word keyword.R) 190) ∷
    item.Local (assign (name (codes "counter") 196) None None 196) ∷ []) (Some (insts_of [] ((record (inst (name (codes "d") 207)) { dims = lend ((expr.Number 2 (at 209)) ∷ []) }) ∷ [])))) ∷
    item.Dynamic (path_of ((step_to (name (codes "d") 213) []) ∷ [])) (assign (name (codes "incrvalue") 216) None (value (expr.Ref (path_of ((step_to (name (codes "b") 228) []) ∷ [])) None)) 213) ∷
    item.Def (component kind.Field None [] 231 (
    item.Local (assign (name (codes "sw") 239) None (word keyword.R) 239) ∷
    item.Local (assign (name (codes "hw") 245) None (word keyword.R) 245) ∷
    item.Local (assign (name (codes "counter") 251) None None 251) ∷ []) (Some (insts_of [] ((record (inst (name (codes "e") 262)) { dims = lend ((expr.Number 4 (at 264)) ∷ []) }) ∷ [])))) ∷
    item.Dynamic (path_of ((step_to (name (codes "e") 268) []) ∷ [])) (assign (name (codes "incrvalue") 271) None (value (expr.Ref (path_of ((step_to (name (codes "a") 283) []) ∷ [])) None)) 268) ∷
    item.Def (component kind.Field None [] 290 [] (Some (insts_of [] ((record (inst (name (codes "f") 299)) { reset = Some (lend (expr.Number 0 (at 303))) }) ∷ [])))) ∷
    item.Dynamic (path_of ((step_to (name (codes "f") 306) []) ∷ [])) (assign (name (codes "resetsignal") 309) None (value (expr.Ref (path_of ((step_to (name (codes "s4") 323) []) ∷ [])) None)) 306) ∷
    item.Def (component kind.Field None [] 327 [] (Some (insts_of [] ((inst (name (codes "g") 336)) ∷ [])))) ∷
    item.Dynamic (path_of ((step_to (name (codes "g") 339) []) ∷ [])) (assign (name (codes "we") 342) None (value (expr.Ref (path_of ((step_to (name (codes "a") 347) []) ∷ [])) (Some (name (codes "overflow") 350)))) 339) ∷
    item.Dynamic (path_of ((step_to (name (codes "g") 360) []) ∷ [])) (assign (name (codes "hwset") 363) None (value (expr.Ref (path_of ((step_to (name (codes "x") 371) []) ∷ [])) (Some (name (codes "intr") 374)))) 360) ∷
    item.Dynamic (path_of ((step_to (name (codes "g") 380) []) ∷ [])) (assign (name (codes "hwclr") 383) None (value (expr.Ref (path_of ((step_to (name (codes "d") 391) []) ∷ [])) (Some (name (codes "overflow") 394)))) 380) ∷ []) (Some (insts_of [] ((inst (name (codes "x") 408)) ∷ [])))) ∷ []) None) ∷ [])

-- addrmap y { reg P { field { hw=w; sw=rw; intr; woclr; } e[4] = 0; }; reg Q { field { hw=w; sw=rw; woset; } e[4]; }; P p; alias p Q s; };
abbrev pub alias_of_its_fields : Source
alias_of_its_fields = source (
    item.Def (component kind.Addrmap (Some (name (codes "y") 8)) [] 8 (
    item.Def (component kind.Reg (Some (name (codes "P") 16)) [] 16 (
    item.Def (component kind.Field None [] 20 (
    item.Local (assign (name (codes "hw") 28) None (word keyword.W) 28) ∷
    item.Local (assign (name (codes "sw") 34) None (word keyword.Rw) 34) ∷
    item.Local (assign (name (codes "intr") 41) None None 41) ∷
    item.Local (assign (name (codes "woclr") 47) None None 47) ∷ []) (Some (insts_of [] ((record (inst (name (codes "e") 56)) { dims = lend ((expr.Number 4 (at 58)) ∷ []); reset = Some (lend (expr.Number 0 (at 63))) }) ∷ [])))) ∷ []) None) ∷
    item.Def (component kind.Reg (Some (name (codes "Q") 73)) [] 73 (
    item.Def (component kind.Field None [] 77 (
    item.Local (assign (name (codes "hw") 85) None (word keyword.W) 85) ∷
    item.Local (assign (name (codes "sw") 91) None (word keyword.Rw) 91) ∷
    item.Local (assign (name (codes "woset") 98) None None 98) ∷ []) (Some (insts_of [] ((record (inst (name (codes "e") 107)) { dims = lend ((expr.Number 4 (at 109)) ∷ []) }) ∷ [])))) ∷ []) None) ∷
    item.Made None (name (codes "P") 116) (insts_of [] ((inst (name (codes "p") 118)) ∷ [])) ∷
    item.Made (Some (name (codes "p") 127)) (name (codes "Q") 129) (insts_of [] ((inst (name (codes "s") 131)) ∷ [])) ∷ []) None) ∷ [])

-- addrmap y { reg P { field { hw=w; sw=rw; intr; woclr; } e[4] = 0; }; reg Q { accesswidth=16; field { hw=w; sw=rw; woset; } e[3]; }; P p; alias p Q s; };
abbrev pub alias_of_others : Source
alias_of_others = source (
    item.Def (component kind.Addrmap (Some (name (codes "y") 8)) [] 8 (
    item.Def (component kind.Reg (Some (name (codes "P") 16)) [] 16 (
    item.Def (component kind.Field None [] 20 (
    item.Local (assign (name (codes "hw") 28) None (word keyword.W) 28) ∷
    item.Local (assign (name (codes "sw") 34) None (word keyword.Rw) 34) ∷
    item.Local (assign (name (codes "intr") 41) None None 41) ∷
    item.Local (assign (name (codes "woclr") 47) None None 47) ∷ []) (Some (insts_of [] ((record (inst (name (codes "e") 56)) { dims = lend ((expr.Number 4 (at 58)) ∷ []); reset = Some (lend (expr.Number 0 (at 63))) }) ∷ [])))) ∷ []) None) ∷
    item.Def (component kind.Reg (Some (name (codes "Q") 73)) [] 73 (
    item.Local (assign (name (codes "accesswidth") 77) None (value (expr.Number 16 (at 89))) 77) ∷
    item.Def (component kind.Field None [] 93 (
    item.Local (assign (name (codes "hw") 101) None (word keyword.W) 101) ∷
    item.Local (assign (name (codes "sw") 107) None (word keyword.Rw) 107) ∷
    item.Local (assign (name (codes "woset") 114) None None 114) ∷ []) (Some (insts_of [] ((record (inst (name (codes "e") 123)) { dims = lend ((expr.Number 3 (at 125)) ∷ []) }) ∷ [])))) ∷ []) None) ∷
    item.Made None (name (codes "P") 132) (insts_of [] ((inst (name (codes "p") 134)) ∷ [])) ∷
    item.Made (Some (name (codes "p") 143)) (name (codes "Q") 145) (insts_of [] ((inst (name (codes "s") 147)) ∷ [])) ∷ []) None) ∷ [])

-- addrmap y { reg P { field { hw=r; sw=rw; } e; }; reg Q { field { sw=w1; } e; }; P p; alias p Q s; };
abbrev pub written_once_in_an_alias : Source
written_once_in_an_alias = source (
    item.Def (component kind.Addrmap (Some (name (codes "y") 8)) [] 8 (
    item.Def (component kind.Reg (Some (name (codes "P") 16)) [] 16 (
    item.Def (component kind.Field None [] 20 (
    item.Local (assign (name (codes "hw") 28) None (word keyword.R) 28) ∷
    item.Local (assign (name (codes "sw") 34) None (word keyword.Rw) 34) ∷ []) (Some (insts_of [] ((inst (name (codes "e") 43)) ∷ [])))) ∷ []) None) ∷
    item.Def (component kind.Reg (Some (name (codes "Q") 53)) [] 53 (
    item.Def (component kind.Field None [] 57 (
    item.Local (assign (name (codes "sw") 65) None (word keyword.W1) 65) ∷ []) (Some (insts_of [] ((inst (name (codes "e") 74)) ∷ [])))) ∷ []) None) ∷
    item.Made None (name (codes "P") 80) (insts_of [] ((inst (name (codes "p") 82)) ∷ [])) ∷
    item.Made (Some (name (codes "p") 91)) (name (codes "Q") 93) (insts_of [] ((inst (name (codes "s") 95)) ∷ [])) ∷ []) None) ∷ [])
