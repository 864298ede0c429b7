-- Sources with references.
use Rattle.std.proofs.Common.{[], ◌∷◌, None, Some, codes}
use Rattle.rdl_tree.specs.declared.item.Item.TheVariants as item
use Rattle.rdl_tree.specs.declared.item.Source.{Source}
use Rattle.rdl_tree.specs.declared.expr.Expr.TheVariants as expr
use Rattle.rdl_tree.specs.declared.item.Kind.TheVariants as kind
use Rattle.rb_base.specs.declared.trigger.Trigger.TheVariants as trigger
use Rattle.rdl_base.specs.declared.keyword.Keyword.TheVariants as keyword
use Rattle.rdl_verdict_laws.proofs.WorkedTrees.{lend, at, name, step_to, path_of, word, value, assign, inst, insts_of, component, source}

-- addrmap x { reg { field { sw=r; hw=w; } f[4]; field { sw=r; hw=w; } g[4]; f->next=g; g->next=f; } a; };
abbrev pub two_fields : Source
two_fields = source (
    item.Def (component kind.Addrmap (Some (name (codes "x") 8)) [] 8 (
    item.Def (component kind.Reg None [] 12 (
    item.Def (component kind.Field None [] 18 (
    item.Local (assign (name (codes "sw") 26) None (word keyword.R) 26) ∷
    item.Local (assign (name (codes "hw") 32) None (word keyword.W) 32) ∷ []) (Some (insts_of [] ((record (inst (name (codes "f") 40)) { dims = lend ((expr.Number 4 (at 42)) ∷ []) }) ∷ [])))) ∷
    item.Def (component kind.Field None [] 46 (
    item.Local (assign (name (codes "sw") 54) None (word keyword.R) 54) ∷
    item.Local (assign (name (codes "hw") 60) None (word keyword.W) 60) ∷ []) (Some (insts_of [] ((record (inst (name (codes "g") 68)) { dims = lend ((expr.Number 4 (at 70)) ∷ []) }) ∷ [])))) ∷
    item.Dynamic (path_of ((step_to (name (codes "f") 74) []) ∷ [])) (assign (name (codes "next") 77) None (value (expr.Ref (path_of ((step_to (name (codes "g") 82) []) ∷ [])) None)) 74) ∷
    item.Dynamic (path_of ((step_to (name (codes "g") 85) []) ∷ [])) (assign (name (codes "next") 88) None (value (expr.Ref (path_of ((step_to (name (codes "f") 93) []) ∷ [])) None)) 85) ∷ []) (Some (insts_of [] ((inst (name (codes "a") 98)) ∷ [])))) ∷ []) None) ∷ [])

-- addrmap x { reg { field { sw=r; hw=r; counter; } p; field { sw=r; hw=r; counter; } q; p->incr = q->overflow; q->incr = p->overflow; } a; };
abbrev pub two_counters : Source
two_counters = source (
    item.Def (component kind.Addrmap (Some (name (codes "x") 8)) [] 8 (
    item.Def (component kind.Reg None [] 12 (
    item.Def (component kind.Field None [] 18 (
    item.Local (assign (name (codes "sw") 26) None (word keyword.R) 26) ∷
    item.Local (assign (name (codes "hw") 32) None (word keyword.R) 32) ∷
    item.Local (assign (name (codes "counter") 38) None None 38) ∷ []) (Some (insts_of [] ((inst (name (codes "p") 49)) ∷ [])))) ∷
    item.Def (component kind.Field None [] 52 (
    item.Local (assign (name (codes "sw") 60) None (word keyword.R) 60) ∷
    item.Local (assign (name (codes "hw") 66) None (word keyword.R) 66) ∷
    item.Local (assign (name (codes "counter") 72) None None 72) ∷ []) (Some (insts_of [] ((inst (name (codes "q") 83)) ∷ [])))) ∷
    item.Dynamic (path_of ((step_to (name (codes "p") 86) []) ∷ [])) (assign (name (codes "incr") 89) None (value (expr.Ref (path_of ((step_to (name (codes "q") 96) []) ∷ [])) (Some (name (codes "overflow") 99)))) 86) ∷
    item.Dynamic (path_of ((step_to (name (codes "q") 109) []) ∷ [])) (assign (name (codes "incr") 112) None (value (expr.Ref (path_of ((step_to (name (codes "p") 119) []) ∷ [])) (Some (name (codes "overflow") 122)))) 109) ∷ []) (Some (insts_of [] ((inst (name (codes "a") 134)) ∷ [])))) ∷ []) None) ∷ [])

-- signal {} s; addrmap m { reg R { field { sw=r; hw=w; } f; field { sw=r; hw=rw; next = s; } g; field { sw=r; hw=rw; next = f; } h; }; R v[2]; reg { field { sw=r; hw=rw; } k; k->next = v[1].f; k->we = v[0].g->ored; field { sw=r; hw=rw; } l; l->next = v.f; l->we = m; l->hwset = v[0]->intr; l->hwclr = v[1].h->saturate; l->resetsignal = k; } q; };
abbrev pub many_references : Source
many_references = source (
    item.Def (component kind.Signal None [] 0 [] (Some (insts_of [] ((inst (name (codes "s") 10)) ∷ [])))) ∷
    item.Def (component kind.Addrmap (Some (name (codes "m") 21)) [] 21 (
    item.Def (component kind.Reg (Some (name (codes "R") 29)) [] 29 (
    item.Def (component kind.Field None [] 33 (
    item.Local (assign (name (codes "sw") 41) None (word keyword.R) 41) ∷
    item.Local (assign (name (codes "hw") 47) None (word keyword.W) 47) ∷ []) (Some (insts_of [] ((inst (name (codes "f") 55)) ∷ [])))) ∷
    item.Def (component kind.Field None [] 58 (
    item.Local (assign (name (codes "sw") 66) None (word keyword.R) 66) ∷
    item.Local (assign (name (codes "hw") 72) None (word keyword.Rw) 72) ∷
    item.Local (assign (name (codes "next") 79) None (value (expr.Ref (path_of ((step_to (name (codes "s") 86) []) ∷ [])) None)) 79) ∷ []) (Some (insts_of [] ((inst (name (codes "g") 91)) ∷ [])))) ∷
    item.Def (component kind.Field None [] 94 (
    item.Local (assign (name (codes "sw") 102) None (word keyword.R) 102) ∷
    item.Local (assign (name (codes "hw") 108) None (word keyword.Rw) 108) ∷
    item.Local (assign (name (codes "next") 115) None (value (expr.Ref (path_of ((step_to (name (codes "f") 122) []) ∷ [])) None)) 115) ∷ []) (Some (insts_of [] ((inst (name (codes "h") 127)) ∷ [])))) ∷ []) None) ∷
    item.Made None (name (codes "R") 133) (insts_of [] ((record (inst (name (codes "v") 135)) { dims = lend ((expr.Number 2 (at 137)) ∷ []) }) ∷ [])) ∷
    item.Def (component kind.Reg None [] 141 (
    item.Def (component kind.Field None [] 147 (
    item.Local (assign (name (codes "sw") 155) None (word keyword.R) 155) ∷
    item.Local (assign (name (codes "hw") 161) None (word keyword.Rw) 161) ∷ []) (Some (insts_of [] ((inst (name (codes "k") 170)) ∷ [])))) ∷
    item.Dynamic (path_of ((step_to (name (codes "k") 173) []) ∷ [])) (assign (name (codes "next") 176) None (value (expr.Ref (path_of ((step_to (name (codes "v") 183) ((expr.Number 1 (at 185)) ∷ [])) ∷ (step_to (name (codes "f") 188) []) ∷ [])) None)) 173) ∷
    item.Dynamic (path_of ((step_to (name (codes "k") 191) []) ∷ [])) (assign (name (codes "we") 194) None (value (expr.Ref (path_of ((step_to (name (codes "v") 199) ((expr.Number 0 (at 201)) ∷ [])) ∷ (step_to (name (codes "g") 204) []) ∷ [])) (Some (name (codes "ored") 207)))) 191) ∷
    item.Def (component kind.Field None [] 213 (
    item.Local (assign (name (codes "sw") 221) None (word keyword.R) 221) ∷
    item.Local (assign (name (codes "hw") 227) None (word keyword.Rw) 227) ∷ []) (Some (insts_of [] ((inst (name (codes "l") 236)) ∷ [])))) ∷
    item.Dynamic (path_of ((step_to (name (codes "l") 239) []) ∷ [])) (assign (name (codes "next") 242) None (value (expr.Ref (path_of ((step_to (name (codes "v") 249) []) ∷ (step_to (name (codes "f") 251) []) ∷ [])) None)) 239) ∷
    item.Dynamic (path_of ((step_to (name (codes "l") 254) []) ∷ [])) (assign (name (codes "we") 257) None (value (expr.Ref (path_of ((step_to (name (codes "m") 262) []) ∷ [])) None)) 254) ∷
    item.Dynamic (path_of ((step_to (name (codes "l") 265) []) ∷ [])) (assign (name (codes "hwset") 268) None (value (expr.Ref (path_of ((step_to (name (codes "v") 276) ((expr.Number 0 (at 278)) ∷ [])) ∷ [])) (Some (name (codes "intr") 282)))) 265) ∷
    item.Dynamic (path_of ((step_to (name (codes "l") 288) []) ∷ [])) (assign (name (codes "hwclr") 291) None (value (expr.Ref (path_of ((step_to (name (codes "v") 299) ((expr.Number 1 (at 301)) ∷ [])) ∷ (step_to (name (codes "h") 304) []) ∷ [])) (Some (name (codes "saturate") 307)))) 288) ∷
    item.Dynamic (path_of ((step_to (name (codes "l") 317) []) ∷ [])) (assign (name (codes "resetsignal") 320) None (value (expr.Ref (path_of ((step_to (name (codes "k") 334) []) ∷ [])) None)) 317) ∷ []) (Some (insts_of [] ((inst (name (codes "q") 339)) ∷ [])))) ∷ []) None) ∷ [])

-- addrmap m { reg A { field { sw=r; hw=rw; } f; }; A a; regfile { A a; reg { field { sw=r; hw=rw; } g; g->next = a.f; } b; reg { field { sw=r; hw=rw; } g; field { sw=r; hw=rw; } a; g->next = a.f; } c; } u; };
abbrev pub nearest_name : Source
nearest_name = source (
    item.Def (component kind.Addrmap (Some (name (codes "m") 8)) [] 8 (
    item.Def (component kind.Reg (Some (name (codes "A") 16)) [] 16 (
    item.Def (component kind.Field None [] 20 (
    item.Local (assign (name (codes "sw") 28) None (word keyword.R) 28) ∷
    item.Local (assign (name (codes "hw") 34) None (word keyword.Rw) 34) ∷ []) (Some (insts_of [] ((inst (name (codes "f") 43)) ∷ [])))) ∷ []) None) ∷
    item.Made None (name (codes "A") 49) (insts_of [] ((inst (name (codes "a") 51)) ∷ [])) ∷
    item.Def (component kind.Regfile None [] 54 (
    item.Made None (name (codes "A") 64) (insts_of [] ((inst (name (codes "a") 66)) ∷ [])) ∷
    item.Def (component kind.Reg None [] 69 (
    item.Def (component kind.Field None [] 75 (
    item.Local (assign (name (codes "sw") 83) None (word keyword.R) 83) ∷
    item.Local (assign (name (codes "hw") 89) None (word keyword.Rw) 89) ∷ []) (Some (insts_of [] ((inst (name (codes "g") 98)) ∷ [])))) ∷
    item.Dynamic (path_of ((step_to (name (codes "g") 101) []) ∷ [])) (assign (name (codes "next") 104) None (value (expr.Ref (path_of ((step_to (name (codes "a") 111) []) ∷ (step_to (name (codes "f") 113) []) ∷ [])) None)) 101) ∷ []) (Some (insts_of [] ((inst (name (codes "b") 118)) ∷ [])))) ∷
    item.Def (component kind.Reg None [] 121 (
    item.Def (component kind.Field None [] 127 (
    item.Local (assign (name (codes "sw") 135) None (word keyword.R) 135) ∷
    item.Local (assign (name (codes "hw") 141) None (word keyword.Rw) 141) ∷ []) (Some (insts_of [] ((inst (name (codes "g") 150)) ∷ [])))) ∷
    item.Def (component kind.Field None [] 153 (
    item.Local (assign (name (codes "sw") 161) None (word keyword.R) 161) ∷
    item.Local (assign (name (codes "hw") 167) None (word keyword.Rw) 167) ∷ []) (Some (insts_of [] ((inst (name (codes "a") 176)) ∷ [])))) ∷
    item.Dynamic (path_of ((step_to (name (codes "g") 179) []) ∷ [])) (assign (name (codes "next") 182) None (value (expr.Ref (path_of ((step_to (name (codes "a") 189) []) ∷ (step_to (name (codes "f") 191) []) ∷ [])) None)) 179) ∷ []) (Some (insts_of [] ((inst (name (codes "c") 196)) ∷ [])))) ∷ []) (Some (insts_of [] ((inst (name (codes "u") 201)) ∷ [])))) ∷ []) None) ∷ [])

-- addrmap i { reg { field { sw=rw; hw=r; } en[2] = 0; field { sw=rw; hw=w; intr; } ev[2] = 0; ev->enable = en; ev->haltmask = en; field { sw=r; hw=w; nonsticky intr; } lv; lv->next = en->xored; field { sw=rw; hw=r; } n[4]; field { sw=r; hw=r; counter; } c[4] = 0; c->incr = ev->ored; c->incrthreshold = n; c->decrvalue = n; } a; };
abbrev pub many_items : Source
many_items = source (
    item.Def (component kind.Addrmap (Some (name (codes "i") 8)) [] 8 (
    item.Def (component kind.Reg None [] 12 (
    item.Def (component kind.Field None [] 18 (
    item.Local (assign (name (codes "sw") 26) None (word keyword.Rw) 26) ∷
    item.Local (assign (name (codes "hw") 33) None (word keyword.R) 33) ∷ []) (Some (insts_of [] ((record (inst (name (codes "en") 41)) { dims = lend ((expr.Number 2 (at 44)) ∷ []); reset = Some (lend (expr.Number 0 (at 49))) }) ∷ [])))) ∷
    item.Def (component kind.Field None [] 52 (
    item.Local (assign (name (codes "sw") 60) None (word keyword.Rw) 60) ∷
    item.Local (assign (name (codes "hw") 67) None (word keyword.W) 67) ∷
    item.Local (assign (name (codes "intr") 73) None None 73) ∷ []) (Some (insts_of [] ((record (inst (name (codes "ev") 81)) { dims = lend ((expr.Number 2 (at 84)) ∷ []); reset = Some (lend (expr.Number 0 (at 89))) }) ∷ [])))) ∷
    item.Dynamic (path_of ((step_to (name (codes "ev") 92) []) ∷ [])) (assign (name (codes "enable") 96) None (value (expr.Ref (path_of ((step_to (name (codes "en") 105) []) ∷ [])) None)) 92) ∷
    item.Dynamic (path_of ((step_to (name (codes "ev") 109) []) ∷ [])) (assign (name (codes "haltmask") 113) None (value (expr.Ref (path_of ((step_to (name (codes "en") 124) []) ∷ [])) None)) 109) ∷
    item.Def (component kind.Field None [] 128 (
    item.Local (assign (name (codes "sw") 136) None (word keyword.R) 136) ∷
    item.Local (assign (name (codes "hw") 142) None (word keyword.W) 142) ∷
    item.Local (assign (name (codes "intr") 158) (Some trigger.Nonsticky) None 148) ∷ []) (Some (insts_of [] ((inst (name (codes "lv") 166)) ∷ [])))) ∷
    item.Dynamic (path_of ((step_to (name (codes "lv") 170) []) ∷ [])) (assign (name (codes "next") 174) None (value (expr.Ref (path_of ((step_to (name (codes "en") 181) []) ∷ [])) (Some (name (codes "xored") 185)))) 170) ∷
    item.Def (component kind.Field None [] 192 (
    item.Local (assign (name (codes "sw") 200) None (word keyword.Rw) 200) ∷
    item.Local (assign (name (codes "hw") 207) None (word keyword.R) 207) ∷ []) (Some (insts_of [] ((record (inst (name (codes "n") 215)) { dims = lend ((expr.Number 4 (at 217)) ∷ []) }) ∷ [])))) ∷
    item.Def (component kind.Field None [] 221 (
    item.Local (assign (name (codes "sw") 229) None (word keyword.R) 229) ∷
    item.Local (assign (name (codes "hw") 235) None (word keyword.R) 235) ∷
    item.Local (assign (name (codes "counter") 241) None None 241) ∷ []) (Some (insts_of [] ((record (inst (name (codes "c") 252)) { dims = lend ((expr.Number 4 (at 254)) ∷ []); reset = Some (lend (expr.Number 0 (at 259))) }) ∷ [])))) ∷
    item.Dynamic (path_of ((step_to (name (codes "c") 262) []) ∷ [])) (assign (name (codes "incr") 265) None (value (expr.Ref (path_of ((step_to (name (codes "ev") 272) []) ∷ [])) (Some (name (codes "ored") 276)))) 262) ∷
    item.Dynamic (path_of ((step_to (name (codes "c") 282) []) ∷ [])) (assign (name (codes "incrthreshold") 285) None (value (expr.Ref (path_of ((step_to (name (codes "n") 301) []) ∷ [])) None)) 282) ∷
    item.Dynamic (path_of ((step_to (name (codes "c") 304) []) ∷ [])) (assign (name (codes "decrvalue") 307) None (value (expr.Ref (path_of ((step_to (name (codes "n") 319) []) ∷ [])) None)) 304) ∷ []) (Some (insts_of [] ((inst (name (codes "a") 324)) ∷ [])))) ∷ []) None) ∷ [])

-- addrmap y { reg P { field { hw=w; sw=rw; intr; woclr; } e[4] = 0; }; reg Q { field { sw=rw; woset; } e[4]; field { sw=r; counter; } n; }; P p; alias p Q s; reg { field { sw=r; hw=rw; } f; f->hwset = s->intr; f->hwclr = s.n->overflow; f->we = p->halt; } t; };
abbrev pub alias_items : Source
alias_items = source (
    item.Def (component kind.Addrmap (Some (name (codes "y") 8)) [] 8 (
    item.Def (component kind.Reg (Some (name (codes "P") 16)) [] 16 (
    item.Def (component kind.Field None [] 20 (
    item.Local (assign (name (codes "hw") 28) None (word keyword.W) 28) ∷
    item.Local (assign (name (codes "sw") 34) None (word keyword.Rw) 34) ∷
    item.Local (assign (name (codes "intr") 41) None None 41) ∷
    item.Local (assign (name (codes "woclr") 47) None None 47) ∷ []) (Some (insts_of [] ((record (inst (name (codes "e") 56)) { dims = lend ((expr.Number 4 (at 58)) ∷ []); reset = Some (lend (expr.Number 0 (at 63))) }) ∷ [])))) ∷ []) None) ∷
    item.Def (component kind.Reg (Some (name (codes "Q") 73)) [] 73 (
    item.Def (component kind.Field None [] 77 (
    item.Local (assign (name (codes "sw") 85) None (word keyword.Rw) 85) ∷
    item.Local (assign (name (codes "woset") 92) None None 92) ∷ []) (Some (insts_of [] ((record (inst (name (codes "e") 101)) { dims = lend ((expr.Number 4 (at 103)) ∷ []) }) ∷ [])))) ∷
    item.Def (component kind.Field None [] 107 (
    item.Local (assign (name (codes "sw") 115) None (word keyword.R) 115) ∷
    item.Local (assign (name (codes "counter") 121) None None 121) ∷ []) (Some (insts_of [] ((inst (name (codes "n") 132)) ∷ [])))) ∷ []) None) ∷
    item.Made None (name (codes "P") 138) (insts_of [] ((inst (name (codes "p") 140)) ∷ [])) ∷
    item.Made (Some (name (codes "p") 149)) (name (codes "Q") 151) (insts_of [] ((inst (name (codes "s") 153)) ∷ [])) ∷
    item.Def (component kind.Reg None [] 156 (
    item.Def (component kind.Field None [] 162 (
    item.Local (assign (name (codes "sw") 170) None (word keyword.R) 170) ∷
    item.Local (assign (name (codes "hw") 176) None (word keyword.Rw) 176) ∷ []) (Some (insts_of [] ((inst (name (codes "f") 185)) ∷ [])))) ∷
    item.Dynamic (path_of ((step_to (name (codes "f") 188) []) ∷ [])) (assign (name (codes "hwset") 191) None (value (expr.Ref (path_of ((step_to (name (codes "s") 199) []) ∷ [])) (Some (name (codes "intr") 202)))) 188) ∷
    item.Dynamic (path_of ((step_to (name (codes "f") 208) []) ∷ [])) (assign (name (codes "hwclr") 211) None (value (expr.Ref (path_of ((step_to (name (codes "s") 219) []) ∷ (step_to (name (codes "n") 221) []) ∷ [])) (Some (name (codes "overflow") 224)))) 208) ∷
    item.Dynamic (path_of ((step_to (name (codes "f") 234) []) ∷ [])) (assign (name (codes "we") 237) None (value (expr.Ref (path_of ((step_to (name (codes "p") 242) []) ∷ [])) (Some (name (codes "halt") 245)))) 234) ∷ []) (Some (insts_of [] ((inst (name (codes "t") 253)) ∷ [])))) ∷ []) None) ∷ [])

-- addrmap m { reg t { signal {} c; field {} f; }; t p; alias p t s; reg { field { next = s.c; } g; } b; };
abbrev pub signal_in_an_alias : Source
signal_in_an_alias = source (
    item.Def (component kind.Addrmap (Some (name (codes "m") 8)) [] 8 (
    item.Def (component kind.Reg (Some (name (codes "t") 16)) [] 16 (
    item.Def (component kind.Signal None [] 20 [] (Some (insts_of [] ((inst (name (codes "c") 30)) ∷ [])))) ∷
    item.Def (component kind.Field None [] 33 [] (Some (insts_of [] ((inst (name (codes "f") 42)) ∷ [])))) ∷ []) None) ∷
    item.Made None (name (codes "t") 48) (insts_of [] ((inst (name (codes "p") 50)) ∷ [])) ∷
    item.Made (Some (name (codes "p") 59)) (name (codes "t") 61) (insts_of [] ((inst (name (codes "s") 63)) ∷ [])) ∷
    item.Def (component kind.Reg None [] 66 (
    item.Def (component kind.Field None [] 72 (
    item.Local (assign (name (codes "next") 80) None (value (expr.Ref (path_of ((step_to (name (codes "s") 87) []) ∷ (step_to (name (codes "c") 89) []) ∷ [])) None)) 80) ∷ []) (Some (insts_of [] ((inst (name (codes "g") 94)) ∷ [])))) ∷ []) (Some (insts_of [] ((inst (name (codes "b") 99)) ∷ [])))) ∷ []) None) ∷ [])
