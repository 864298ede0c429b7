-- Nodes put in under a key.
use Rattle.std.proofs.Common.{◌≡◌, ◌∙◌, ℕ, Bool, true, false, ◌&&◌, ◌==◌, cond, bytes_eq, List, [], ◌∷◌, ◌++◌, append-nil, Some, Vec, refl, sym, ap}
use Rattle.std.specs.BTreeMap.{UpdatesBy, get, get_by}
use Rattle.std.specs.Cmp.{unsigned_ties}
use Rattle.std.specs.Cmp.Lexicographic.{bytes_decides, slice_cmp}
use Rattle.std.specs.Global.{Global}
use Rattle.std.specs.Ordering.{nat_cmp}
use Rattle.std.proofs.lemmas.Map.Text.{btree_map_updates_str}
use Rattle.plain_lemmas.proofs.Bools.{and-both as both-true, and-false, and-true}
use Rattle.plain_lemmas.proofs.Numbers.{eq-same as same-number}
use Rattle.rdl_nodes.specs.Keyed.{Key, found_in, in_body, listed, named, named_in, nodes_under, same_key}
use Rattle.rdl_nodes.specs.declared.by_body.ByBody.{ByBody}
use Rattle.rdl_nodes.specs.declared.by_name.ByName.{ByName}
use Rattle.rdl_nodes.specs.declared.node_index.NodeIndex.{NodeIndex}

pub keys-decide : (j k : Key) → same_key j k ≡ true → j ≡ k
keys-decide j k e =
    let outer = both-true (j.body == k.body && bytes_eq j.name k.name) (bytes_eq j.index k.index) e in
    let inner = both-true (j.body == k.body) (bytes_eq j.name k.name) outer.0 in
    let b = same-number j.body k.body inner.0 in
    let n = (bytes_decides j.name k.name).0 inner.1 in
    let i = (bytes_decides j.index k.index).0 outer.1 in
    (λ t. record { body = b t; name = n t; index = i t })

-- what is under names, once a list is in place of that of one name
pub set-name : (name : List ℕ) (old new : ByName) (v : Vec ℕ Global) → UpdatesBy (λ x y. slice_cmp nat_cmp x.now y.now) (λ x. slice_cmp nat_cmp name x.now) old.nodes new.nodes (Some v)
    → (n : List ℕ) → named new n ≡ cond (bytes_eq name n) v.items (named old n)
set-name name old new v put n = ap listed (btree_map_updates_str name old.nodes new.nodes (Some v) put n) ∙ go (bytes_eq name n)
  where
    go : (b : Bool) → listed (cond b (Some v) (get_by (λ x. slice_cmp nat_cmp n x.now) old.nodes)) ≡ cond b v.items (named old n)
    go true = refl
    go false = refl

pub other-name : (name : List ℕ) (old new : ByName) (v : Vec ℕ Global) → UpdatesBy (λ x y. slice_cmp nat_cmp x.now y.now) (λ x. slice_cmp nat_cmp name x.now) old.nodes new.nodes (Some v)
    → (n : List ℕ) → bytes_eq name n ≡ false → named new n ≡ named old n
other-name name old new v put n e = set-name name old new v put n ∙ ap (λ b. cond b v.items (named old n)) e

-- taken out, and put back with one more
pub more-named : (name : List ℕ) (node : ℕ) (old between new : ByName) (list : List ℕ) (v : Vec ℕ Global) → list ≡ named old name → ((n : List ℕ) → bytes_eq name n ≡ false → named between n ≡ named old n) → v.items ≡ list ++ (node ∷ [])
    → UpdatesBy (λ x y. slice_cmp nat_cmp x.now y.now) (λ x. slice_cmp nat_cmp name x.now) between.nodes new.nodes (Some v) → (n : List ℕ) → named new n ≡ named old n ++ cond (bytes_eq name n) (node ∷ []) []
more-named name node old between new list v taken others pushed put n = set-name name between new v put n ∙ go (bytes_eq name n) refl
  where
    go : (b : Bool) → bytes_eq name n ≡ b → cond b v.items (named between n) ≡ named old n ++ cond b (node ∷ []) []
    go false e = others n e ∙ sym (append-nil (named old n))
    go true e = pushed ∙ ap (λ xs. xs ++ (node ∷ [])) (taken ∙ ap (named old) ((bytes_decides name n).0 e))

-- the same one level up: what is in bodies, once names are in place of those of one body
pub set-body : (body : ℕ) (old new : ByBody) (t : ByName) → UpdatesBy nat_cmp (nat_cmp body) old.names new.names (Some t) → (b : ℕ) (n : List ℕ) → in_body new b n ≡ cond (body == b) (named t n) (in_body old b n)
set-body body old new t put b n = ap (λ o. named_in o n) (put.0 b ∙ ap (λ c. cond c (Some t) (get nat_cmp old.names b)) (sym (unsigned_ties body b))) ∙ go (body == b)
  where
    go : (c : Bool) → named_in (cond c (Some t) (get nat_cmp old.names b)) n ≡ cond c (named t n) (in_body old b n)
    go true = refl
    go false = refl

pub other-body : (body : ℕ) (old new : ByBody) (t : ByName) → UpdatesBy nat_cmp (nat_cmp body) old.names new.names (Some t) → (b : ℕ) (n : List ℕ) → (body == b) ≡ false → in_body new b n ≡ in_body old b n
other-body body old new t put b n e = set-body body old new t put b n ∙ ap (λ c. cond c (named t n) (in_body old b n)) e

pub more-in_body : (body : ℕ) (name : List ℕ) (node : ℕ) (old between new : ByBody) (taken more : ByName) → ((n : List ℕ) → named taken n ≡ in_body old body n) → ((b : ℕ) (n : List ℕ) → (body == b) ≡ false → in_body between b n ≡ in_body old b n)
    → ((n : List ℕ) → named more n ≡ named taken n ++ cond (bytes_eq name n) (node ∷ []) []) → UpdatesBy nat_cmp (nat_cmp body) between.names new.names (Some more)
    → (b : ℕ) (n : List ℕ) → in_body new b n ≡ in_body old b n ++ cond (body == b && bytes_eq name n) (node ∷ []) []
more-in_body body name node old between new taken more was others pushed put b n = set-body body between new more put b n ∙ go (body == b) refl
  where
    go : (c : Bool) → (body == b) ≡ c → cond c (named more n) (in_body between b n) ≡ in_body old b n ++ cond (c && bytes_eq name n) (node ∷ []) []
    go false e = others b n e ∙ sym (append-nil (in_body old b n))
    go true e = pushed n ∙ ap (λ xs. xs ++ cond (bytes_eq name n) (node ∷ []) []) (was n ∙ ap (λ k. in_body old k n) (same-number body b e))

-- and at the top: what is under keys, once bodies are in place of those with the same indices
pub set-index : (index : List ℕ) (old new : NodeIndex) (t : ByBody) → UpdatesBy (λ x y. slice_cmp nat_cmp x.now y.now) (λ x. slice_cmp nat_cmp index x.now) old.bodies new.bodies (Some t)
    → (k : Key) → nodes_under new k ≡ cond (bytes_eq index k.index) (in_body t k.body k.name) (nodes_under old k)
set-index index old new t put k = ap (λ o. found_in o k.body k.name) (btree_map_updates_str index old.bodies new.bodies (Some t) put k.index) ∙ go (bytes_eq index k.index)
  where
    go : (c : Bool) → found_in (cond c (Some t) (get_by (λ x. slice_cmp nat_cmp k.index x.now) old.bodies)) k.body k.name ≡ cond c (in_body t k.body k.name) (nodes_under old k)
    go true = refl
    go false = refl

pub other-index : (index : List ℕ) (old new : NodeIndex) (t : ByBody) → UpdatesBy (λ x y. slice_cmp nat_cmp x.now y.now) (λ x. slice_cmp nat_cmp index x.now) old.bodies new.bodies (Some t)
    → (k : Key) → bytes_eq index k.index ≡ false → nodes_under new k ≡ nodes_under old k
other-index index old new t put k e = set-index index old new t put k ∙ ap (λ c. cond c (in_body t k.body k.name) (nodes_under old k)) e

pub more-under : (key : Key) (node : ℕ) (old between new : NodeIndex) (taken more : ByBody) → ((b : ℕ) (n : List ℕ) → in_body taken b n ≡ nodes_under old (record { body = b; name = n; index = key.index }))
    → ((k : Key) → bytes_eq key.index k.index ≡ false → nodes_under between k ≡ nodes_under old k) → ((b : ℕ) (n : List ℕ) → in_body more b n ≡ in_body taken b n ++ cond (key.body == b && bytes_eq key.name n) (node ∷ []) [])
    → UpdatesBy (λ x y. slice_cmp nat_cmp x.now y.now) (λ x. slice_cmp nat_cmp key.index x.now) between.bodies new.bodies (Some more) → (k : Key) → nodes_under new k ≡ nodes_under old k ++ cond (same_key key k) (node ∷ []) []
more-under key node old between new taken more was others pushed put k = set-index key.index between new more put k ∙ go (bytes_eq key.index k.index) refl
  where
    same : Bool
    same = key.body == k.body && bytes_eq key.name k.name

    go : (c : Bool) → bytes_eq key.index k.index ≡ c → cond c (in_body more k.body k.name) (nodes_under between k) ≡ nodes_under old k ++ cond (same && c) (node ∷ []) []
    go false e = others k e ∙ (sym (append-nil (nodes_under old k)) ∙ ap (λ c. nodes_under old k ++ cond c (node ∷ []) []) (sym (and-false same)))
    go true e =
        pushed k.body k.name
        ∙ (ap (λ xs. xs ++ cond same (node ∷ []) []) (was k.body k.name ∙ ap (λ i. nodes_under old (record { body = k.body; name = k.name; index = i })) ((bytes_decides key.index k.index).0 e))
        ∙ ap (λ c. nodes_under old k ++ cond c (node ∷ []) []) (sym (and-true same)))
