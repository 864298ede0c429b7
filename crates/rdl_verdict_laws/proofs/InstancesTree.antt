-- A tree of nodes that says what the instances of a source are, an alias among them.
use Rattle.std.proofs.Common.{ℕ, ◌+◌, List, [], ◌∷◌, Option, None, Some, refl, codes}
use Rattle.std.specs.Borrow.{Bor}
use Rattle.std.specs.Fmt.{digits}
use Rattle.rdl_tree.specs.declared.expr.Expr.TheVariants as expr
use Rattle.rdl_tree.specs.declared.expr.Path.{roll-Path}
use Rattle.rdl_tree.specs.declared.item.Def.{Def}
use Rattle.rdl_tree.specs.declared.item.Inst.{Inst}
use Rattle.rdl_tree.specs.declared.item.Item.{Item}
use Rattle.rdl_tree.specs.declared.item.Item.TheVariants as item
use Rattle.rdl_tree.specs.declared.item.Kind.TheVariants as kind
use Rattle.rdl_tree.specs.declared.item.PType.TheVariants as ptype
use Rattle.rdl_tree.specs.declared.node.Elab.{Elab}
use Rattle.rdl_tree.specs.declared.node.Node.{Node, roll-Node, out-Node}
use Rattle.rdl_tree.specs.declared.value.Bound.{Bound}
use Rattle.rdl_tree.specs.declared.value.Env.{Env, roll-Env}
use Rattle.rdl_tree.specs.declared.value.Value.TheVariants as value
use Rattle.rdl_values.specs.Elaborated.{node, none, more, IsElab}
use Rattle.rdl_verdict_laws.proofs.InstancesSources.{alias_beside}
use Rattle.rdl_verdict_laws.proofs.WorkedTrees.{lend, at, name, inst, insts_of, component}
use Rattle.rdl_values.specs.Instances.{nodes}

-- signal {} g; addrmap k { reg P #(longint n = 4) { field {} e; }; P p[1]; P q; alias q P s; };

abbrev inst_g : Inst
inst_g = inst (name (codes "g") 10)

abbrev inst_e : Inst
inst_e = inst (name (codes "e") 59)

abbrev inst_p : Inst
inst_p = record (inst (name (codes "p") 67)) { dims = lend (expr.Number 1 (at 69) ∷ []) }

abbrev inst_q : Inst
inst_q = inst (name (codes "q") 75)

abbrev inst_s : Inst
inst_s = inst (name (codes "s") 88)

abbrev def_g : Def
def_g = component kind.Signal None [] 0 [] (Some (insts_of [] (inst_g ∷ [])))

abbrev def_e : Def
def_e = component kind.Field None [] 50 [] (Some (insts_of [] (inst_e ∷ [])))

abbrev def_p : Def
def_p = component kind.Reg (Some (name (codes "P") 29)) (record { name = name (codes "n") 41; ptype = ptype.Number; default = Some (expr.Number 4 (at 45)) } ∷ []) 29 (item.Def def_e ∷ []) None

abbrev def_k : Def
def_k = component kind.Addrmap (Some (name (codes "k") 21)) [] 21 (item.Def def_p ∷ item.Made None (name (codes "P") 65) (insts_of [] (inst_p ∷ [])) ∷ item.Made None (name (codes "P") 73) (insts_of [] (inst_q ∷ [])) ∷ item.Made (Some (name (codes "q") 84)) (name (codes "P") 86) (insts_of [] (inst_s ∷ [])) ∷ []) None

-- What is visible in the bodies: the parameter's value in those of p, q and s.

abbrev env : List Bound → Option (Bor Env) → Env
env bound outer = roll-Env (record { bound = lend bound; enums = lend []; outer = outer })

abbrev env_root : Env
env_root = env [] None

abbrev env_k : Env
env_k = env [] (Some (lend env_root))

abbrev env_p : Env
env_p = env (record { name = name (codes "n") 41; value = value.Number 4 } ∷ []) (Some (lend env_k))

abbrev field_in : ℕ → Node
field_in id = roll-Node (record { id = id; name = lend (codes "e"); index = lend []; kind = kind.Field; def = lend def_e; inst = Some (lend inst_e); alias = None; env = lend (env [] (Some (lend env_p))); children = lend []; place = at 59 })

abbrev reg_of : ℕ → List ℕ → List ℕ → Inst → Option ℕ → ℕ → Node
reg_of id n index i alias place = roll-Node (record { id = id; name = lend n; index = lend index; kind = kind.Reg; def = lend def_p; inst = Some (lend i); alias = alias; env = lend env_p; children = lend (field_in (id + 1) ∷ []); place = at place })

abbrev regs : List Node
regs = reg_of 2 (codes "p") (0 ∷ []) inst_p None 67 ∷ reg_of 4 (codes "q") [] inst_q None 75 ∷ reg_of 6 (codes "s") [] inst_s (Some 4) 88 ∷ []

abbrev elab : Elab
elab = record {
  source = lend alias_beside;
  signals = lend (roll-Node (record { id = 0; name = lend (codes "g"); index = lend []; kind = kind.Signal; def = lend def_g; inst = Some (lend inst_g); alias = None; env = lend (env [] (Some (lend env_root))); children = lend []; place = at 10 }) ∷ []);
  top = lend (roll-Node (record { id = 1; name = lend (codes "k"); index = lend []; kind = kind.Addrmap; def = lend def_k; inst = None; alias = None; env = lend env_k; children = lend regs; place = at 21 }));
  count = 8;
}

-- s is an alias of the node 4, which is q; an element of an array stands between
tree_with_alias : IsElab None alias_beside elab
unfolding nodes digits roll-Path denote.Hole.Carrier.roll Rattle.rdl_tree.specs.declared.expr.Expr.TheBlock.hidden-the_row-Step-1 denote.Hole.Carrier.hidden Rattle.rdl_tree.specs.declared.item.Item.TheBlock.hidden-the_row-Item-0 roll-Node roll-Env out-Node denote.Hole.Carrier.out denote.Hole.Carrier.shown Rattle.rdl_tree.specs.declared.node.Node.TheBlock.shown-the_row-Node-0 Rattle.rdl_tree.specs.declared.node.Node.TheBlock.hidden-the_row-Node-0
tree_with_alias = record { source = refl; between = 1; signals_ = more (node refl (record { name = refl; index = refl; kind = refl; def = refl; inst = refl; alias = refl; env = refl; place = refl }) none) none; top = more (node refl (record { name = refl; index = refl; kind = refl; def = refl; inst = refl; alias = refl; env = refl; place = refl }) (more (node refl (record { name = refl; index = refl; kind = refl; def = refl; inst = refl; alias = refl; env = refl; place = refl }) (more (node refl (record { name = refl; index = refl; kind = refl; def = refl; inst = refl; alias = refl; env = refl; place = refl }) none) none)) (more (node refl (record { name = refl; index = refl; kind = refl; def = refl; inst = refl; alias = refl; env = refl; place = refl }) (more (node refl (record { name = refl; index = refl; kind = refl; def = refl; inst = refl; alias = refl; env = refl; place = refl }) none) none)) (more (node refl (record { name = refl; index = refl; kind = refl; def = refl; inst = refl; alias = refl; env = refl; place = refl }) (more (node refl (record { name = refl; index = refl; kind = refl; def = refl; inst = refl; alias = refl; env = refl; place = refl }) none) none)) none)))) none }
