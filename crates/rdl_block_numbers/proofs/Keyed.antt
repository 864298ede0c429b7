-- A number more under a key.
use Rattle.std.proofs.Common.{◌≡◌, ◌∙◌, ℕ, Bool, true, false, ◌&&◌, ◌==◌, cond, bytes_eq, List, None, Some, is_some, refl, sym, ap}
use Rattle.std.specs.BTreeMap.{UpdatesBy, get}
use Rattle.std.specs.Cmp.{unsigned_ties}
use Rattle.std.specs.Cmp.Lexicographic.{bytes_decides, slice_cmp}
use Rattle.std.specs.Option.{option_or}
use Rattle.std.specs.Ordering.{nat_cmp}
use Rattle.std.proofs.lemmas.Map.Text.{btree_map_updates_str}
use Rattle.plain_lemmas.proofs.Numbers.{eq-same as same-number}
use Rattle.plain_lemmas.proofs.Options.{option_or-first as or-some, option_or-none as or-none, option_or-second as or-first}
use Rattle.rdl_block_numbers.specs.declared.field_names.FieldNames.{FieldNames}
use Rattle.rdl_block_numbers.specs.declared.fields.Names.{Names}
use Rattle.rdl_block_numbers.specs.Named.{Key, named_in, number_named, number_under, same_key}

-- what names have once a number is put in under one
abbrev pub IsNamed : List ℕ → ℕ → FieldNames → FieldNames → Type 0
IsNamed name number old new = (n : List ℕ) → number_named new n ≡ option_or (number_named old n) (cond (bytes_eq name n) (Some number) None)

pub named-again : (name : List ℕ) (number : ℕ) (t : FieldNames) → is_some (number_named t name) ≡ true → IsNamed name number t t
named-again name number t there n = go (bytes_eq name n) refl
  where
    go : (b : Bool) → bytes_eq name n ≡ b → number_named t n ≡ option_or (number_named t n) (cond b (Some number) None)
    go false e = or-none (number_named t n)
    go true e = or-some (number_named t n) (Some number) (ap (λ m. is_some (number_named t m)) (sym ((bytes_decides name n).0 e)) ∙ there)

pub named-new : (name : List ℕ) (number : ℕ) (old new : FieldNames) → is_some (number_named old name) ≡ false → UpdatesBy (λ x y. slice_cmp nat_cmp x.now y.now) (λ x. slice_cmp nat_cmp name x.now) old.numbers new.numbers (Some number) → IsNamed name number old new
named-new name number old new fresh put n = btree_map_updates_str name old.numbers new.numbers (Some number) put n ∙ go (bytes_eq name n) refl
  where
    go : (b : Bool) → bytes_eq name n ≡ b → cond b (Some number) (number_named old n) ≡ option_or (number_named old n) (cond b (Some number) None)
    go false e = or-none (number_named old n)
    go true e = or-first (number_named old n) (Some number) (ap (λ m. is_some (number_named old m)) (sym ((bytes_decides name n).0 e)) ∙ fresh)

-- once names are in place of those of one node
pub set-node : (body : ℕ) (old new : Names) (t : FieldNames) → UpdatesBy nat_cmp (nat_cmp body) old.nodes new.nodes (Some t) → (k : Key) → number_under new k ≡ cond (body == k.body) (number_named t k.name) (number_under old k)
set-node body old new t put k = ap (λ o. named_in o k.name) (put.0 k.body ∙ ap (λ c. cond c (Some t) (get nat_cmp old.nodes k.body)) (sym (unsigned_ties body k.body))) ∙ go (body == k.body)
  where
    go : (c : Bool) → named_in (cond c (Some t) (get nat_cmp old.nodes k.body)) k.name ≡ cond c (number_named t k.name) (number_under old k)
    go true = refl
    go false = refl

pub other-node : (body : ℕ) (old new : Names) (t : FieldNames) → UpdatesBy nat_cmp (nat_cmp body) old.nodes new.nodes (Some t) → (k : Key) → (body == k.body) ≡ false → number_under new k ≡ number_under old k
other-node body old new t put k e = set-node body old new t put k ∙ ap (λ c. cond c (number_named t k.name) (number_under old k)) e

-- taken out, and put back with one more
pub one-under : (key : Key) (number : ℕ) (old between new : Names) (taken more : FieldNames) → ((n : List ℕ) → number_named taken n ≡ number_under old (record { body = key.body; name = n }))
    → ((k : Key) → (key.body == k.body) ≡ false → number_under between k ≡ number_under old k) → IsNamed key.name number taken more
    → UpdatesBy nat_cmp (nat_cmp key.body) between.nodes new.nodes (Some more) → (k : Key) → number_under new k ≡ option_or (number_under old k) (cond (same_key key k) (Some number) None)
one-under key number old between new taken more was others pushed put k = set-node key.body between new more put k ∙ go (key.body == k.body) refl
  where
    go : (c : Bool) → (key.body == k.body) ≡ c → cond c (number_named more k.name) (number_under between k) ≡ option_or (number_under old k) (cond (c && bytes_eq key.name k.name) (Some number) None)
    go false e = others k e ∙ or-none (number_under old k)
    go true e =
        pushed k.name
        ∙ ap (λ o. option_or o (cond (bytes_eq key.name k.name) (Some number) None)) (was k.name ∙ ap (λ b. number_under old (record { body = b; name = k.name })) (same-number key.body k.body e))
