-- Nodes at their numbers.
use Rattle.std.proofs.Common.{◌≡◌, ◌∙◌, ◌⊎◌, inl, inr, ℕ, zero, suc, ◌+◌, Bool, true, false, not, cond, List, [], ◌∷◌, ◌++◌, map, filter, flat_map, find, length, Option, Some, slice_get, Contains, refl, sym, ap}
use Rattle.std.specs.List.{AllByRecursion}
use Rattle.std.proofs.lemmas.List.{map-append}
use Rattle.std.proofs.lemmas.List.Folds.{find_at}
use Rattle.plain_lemmas.proofs.Lists.{get-mapped as got, map-filter, map-map}
use Rattle.rdl_tree.specs.declared.item.Kind.TheVariants as kind
use Rattle.rdl_tree.specs.declared.item.Source.{Source}
use Rattle.rdl_values.specs.Instances.{Instance, children, nodes}
use Rattle.rdl_values.specs.Lineages.{Lineage, lineages, nodes_in}
use Rattle.rdl_nodes.proofs.Lineages.{all_nodes}
use Rattle.rdl_nodes.proofs.Members.{In, each-in, flat-in, get-map, in-from}
use Rattle.rdl_layers.specs.Assignments.{same_path}
use Rattle.rdl_layers.specs.Fields.{fields_of, is_a, is_alias}
use Rattle.rdl_layers.proofs.Spared.{same-self}
use Rattle.rdl_refs.proofs.OneTarget.{is_same_path}
use Rattle.rdl_sound_laws.proofs.Closed.{all-closed, one-node}
use Rattle.rdl_rules.specs.Block.{fields, numbered_registers, reg_of, signal_of}
use Rattle.rdl_rules.specs.Fields.{field_of}
use Rattle.rdl_rules.specs.Numbers.{Numbered, all_fields, all_signals, number_of, numbered_from, primaries, registers}

-- Lists.

pub in-filter : {X : Type 0} (p : X → Bool) (xs : List X) (x : X) → In (filter p xs) x → In xs x
in-filter p [] x h = absurd h
in-filter p (y ∷ ys) x h = go (p y) h (in-filter p ys x)
  where
    go : (b : Bool) → In (cond b (y ∷ filter p ys) (filter p ys)) x → (In (filter p ys) x → In ys x) → (y ≡ x) ⊎ In ys x
    go true (inl e) rest = inl e
    go true (inr i) rest = inr (rest i)
    go false i rest = inr (rest i)

-- A node stands at its number, where no other of its path is listed.
pub found : (ns : List Instance) (n : Instance) → ((m : Instance) → In ns m → m.path ≡ n.path → m ≡ n) → In ns n → slice_get ns (number_of n ns) ≡ Some n
found ns n unique i = sym (find_at (λ m. same_path m.path n.path) ns) ∙ first ns unique i
  where
    first : (ms : List Instance) → ((m : Instance) → In ms m → m.path ≡ n.path → m ≡ n) → In ms n → find (λ m. same_path m.path n.path) ms ≡ Some n
    first [] u h = absurd h
    first (m ∷ ms) u h = go (same_path m.path n.path) refl h (first ms (λ x k. u x (inr k)))
      where
        go : (b : Bool) → same_path m.path n.path ≡ b → (m ≡ n) ⊎ In ms n → (In ms n → find (λ x. same_path x.path n.path) ms ≡ Some n) → cond b (Some m) (find (λ x. same_path x.path n.path) ms) ≡ Some n
        go true p k rest = ap Some (u m (inl refl) (is_same_path m.path n.path p))
        go false p (inr k) rest = rest k
        go false p (inl e) rest = let yes : same_path m.path n.path ≡ true = ap (λ x. same_path x.path n.path) e ∙ same-self n.path in let no' : true ≡ false = sym yes ∙ p in cc

-- Signals and registers.

pub signal-at : (wanted : Option (List ℕ)) (s : Source) (n : Instance) → Contains (all_signals (nodes wanted s)) n → slice_get (map signal_of (all_signals (nodes wanted s))) (number_of n (all_signals (nodes wanted s))) ≡ Some (signal_of n)
signal-at wanted s n c =
    let ns = nodes wanted s in
    let i = in-from (all_signals ns) n c in
    get-map signal_of (all_signals ns) (number_of n (all_signals ns)) n
    (found (all_signals ns) n (λ m k e. one-node wanted s m n (in-filter (is_a kind.Signal) ns m k) (in-filter (is_a kind.Signal) ns n i) e) i)

pub register-at : (wanted : Option (List ℕ)) (s : Source) (n : Instance) → Contains (registers (nodes wanted s)) n → slice_get (map reg_of (registers (nodes wanted s))) (number_of n (registers (nodes wanted s))) ≡ Some (reg_of n)
register-at wanted s n c =
    let ns = nodes wanted s in
    let i = in-from (registers ns) n c in
    get-map reg_of (registers ns) (number_of n (registers ns)) n
    (found (registers ns) n (λ m k e. one-node wanted s m n (in-filter (is_a kind.Reg) ns m k) (in-filter (is_a kind.Reg) ns n i) e) i)

-- Fields, with their registers.

abbrev pub pairs : List (Numbered Lineage) → List (Numbered Lineage × Instance)
pairs rs = flat_map (λ r. map (λ f. (r, f)) (fields_of r.register.node)) rs

map-id : {X : Type 0} (xs : List X) → map (λ x. x) xs ≡ xs
map-id [] = refl
map-id (x ∷ xs) = ap (λ ys. x ∷ ys) (map-id xs)

pub with-registers : (s : Source) (all : List Lineage) (rs : List (Numbered Lineage)) → map (λ p. field_of s all p.0 p.1) (pairs rs) ≡ flat_map (λ r. map (field_of s all r) (fields_of r.register.node)) rs
with-registers s all [] = refl
with-registers s all (r ∷ rs) = map-append (λ (p : Numbered Lineage × Instance). field_of s all p.0 p.1) (map (λ f. (r, f)) (fields_of r.register.node)) (pairs rs)
    ∙ ap (λ xs. xs ++ map (λ (p : Numbered Lineage × Instance). field_of s all p.0 p.1) (pairs rs)) (map-map (λ (p : Numbered Lineage × Instance). field_of s all p.0 p.1) (λ f. (r, f)) (fields_of r.register.node))
    ∙ ap (λ xs. map (field_of s all r) (fields_of r.register.node) ++ xs) (with-registers s all rs)

fields-alone : (rs : List (Numbered Lineage)) → map (λ p. p.1) (pairs rs) ≡ flat_map fields_of (map (λ r. r.register.node) rs)
fields-alone [] = refl
fields-alone (r ∷ rs) = map-append (λ (p : Numbered Lineage × Instance). p.1) (map (λ f. (r, f)) (fields_of r.register.node)) (pairs rs)
    ∙ ap (λ xs. xs ++ map (λ (p : Numbered Lineage × Instance). p.1) (pairs rs)) (map-map (λ (p : Numbered Lineage × Instance). p.1) (λ f. (r, f)) (fields_of r.register.node) ∙ map-id (fields_of r.register.node))
    ∙ ap (λ xs. fields_of r.register.node ++ xs) (fields-alone rs)

numbered-nodes : (k v : ℕ) (ls : List Lineage) → map (λ r. r.register) (numbered_from (λ l. l.node) k v ls) ≡ ls
numbered-nodes k v [] = refl
numbered-nodes k v (l ∷ ls) = ap (λ xs. l ∷ xs) (numbered-nodes (k + 1) (v + length (fields_of l.node)) ls)

-- the registers that are no aliases
abbrev pub own : List Lineage → List (Numbered Lineage)
own all = filter (λ r. not (is_alias r.register.node)) (numbered_registers all)

own-nodes : (all : List Lineage) → map (λ r. r.register.node) (own all) ≡ primaries (nodes_in all)
own-nodes all =
    map-filter (λ (r : Numbered Lineage). r.register.node) (λ n. not (is_alias n)) (numbered_registers all)
    ∙ ap (filter (λ n. not (is_alias n))) (sym (map-map (λ (l : Lineage). l.node) (λ (r : Numbered Lineage). r.register) (numbered_registers all)) ∙ ap (map (λ (l : Lineage). l.node)) (numbered-nodes 0 0 (filter (λ l. is_a kind.Reg l.node) all)) ∙ map-filter (λ (l : Lineage). l.node) (is_a kind.Reg) all)

pub own-fields : (all : List Lineage) → map (λ p. p.1) (pairs (own all)) ≡ all_fields (nodes_in all)
own-fields all = fields-alone (own all) ∙ ap (flat_map fields_of) (own-nodes all)

pub field-in : (wanted : Option (List ℕ)) (s : Source) (n : Instance) → In (all_fields (nodes wanted s)) n → In (nodes wanted s) n
field-in wanted s n i =
    let r = flat-in fields_of (primaries (nodes wanted s)) n i in
    let reg = in-filter (is_a kind.Reg) (nodes wanted s) r.0 (in-filter (λ x. not (is_alias x)) (registers (nodes wanted s)) r.0 r.1) in
    each-in (In (nodes wanted s)) (children r.0) n (each-in (λ x. AllByRecursion (In (nodes wanted s)) (children x)) (nodes wanted s) r.0 (all-closed wanted s) reg) (in-filter (is_a kind.Field) (children r.0) n r.2)

pub field-at : (wanted : Option (List ℕ)) (s : Source) (n : Instance) → Contains (all_fields (nodes wanted s)) n
    → (r : Numbered Lineage) × (slice_get (fields s (lineages wanted s)) (number_of n (all_fields (nodes wanted s))) ≡ Some (field_of s (lineages wanted s) r n))
field-at wanted s n c =
    let ns = nodes wanted s in
    let all = lineages wanted s in
    let i = in-from (all_fields ns) n c in
    let k = number_of n (all_fields ns) in
    let at : slice_get (all_fields ns) k ≡ Some n = found (all_fields ns) n (λ m j e. one-node wanted s m n (field-in wanted s m j) (field-in wanted s n i) e) i in
    let listed : map (λ p. p.1) (pairs (own all)) ≡ all_fields ns = own-fields all ∙ ap all_fields (all_nodes wanted s) in
    let pair = got (λ p. p.1) (pairs (own all)) k n (ap (λ xs. slice_get xs k) listed ∙ at) in
    let here : slice_get (map (λ p. field_of s all p.0 p.1) (pairs (own all))) k ≡ Some (field_of s all pair.0.0 pair.0.1) = get-map (λ p. field_of s all p.0 p.1) (pairs (own all)) k pair.0 pair.1 in
    (pair.0.0, ap (λ xs. slice_get xs k) (sym (with-registers s all (own all))) ∙ here ∙ ap (λ f. Some (field_of s all pair.0.0 f)) pair.2)
