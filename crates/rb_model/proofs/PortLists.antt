-- Lists of ports, as they are built.
use Rattle.std.proofs.Common.{◌≡◌, ℕ, suc, ◌+◌, ◌<◌, Bool, true, false, Option, Some, None, List, [], ◌∷◌, ◌++◌, codes, length, map, take, get_or, filter, refl, ap, sym, ◌∙◌, append_assoc, append-nil, length-take, arith}
use Rattle.std.specs.List.{enumerate_from, flat_map}
use Rattle.std.proofs.lemmas.List.{take_more, map-append}
use Rattle.std.proofs.lemmas.List.Concat.{flat_map-append}
use Rattle.rb_base.specs.declared.ports.Port.{Port}
use Rattle.rb_model.specs.declared.kinds.Shown.{Shown}
use Rattle.rb_model.specs.declared.kinds.RefItem.TheVariants as item
use Rattle.rb_model.specs.declared.block.Field.{Field}
use Rattle.rb_model.specs.declared.block.Reg.{Reg}
use Rattle.rb_base.specs.declared.ports.Dir.TheVariants.{Out}
use Rattle.rb_model.specs.Kept.{when}
use Rattle.rb_model.specs.Own.{shown_ports, outlet_ports}
use Rattle.rb_model.specs.Ports.{output, outlet, shown_word, shown_item, field_outlets, reg_outlets}

-- one element more
pub one_more : {X : Type 0} (all from part : List X) (x : X) (next : List X) → from ≡ all ++ part → next ≡ from ++ x ∷ [] → next ≡ all ++ (part ++ x ∷ [])
one_more all from part x next e f = f ∙ ap (λ xs. xs ++ x ∷ []) e ∙ append_assoc all part (x ∷ [])

pub enumerate_from-push : {X : Type 0} (n m : ℕ) (xs : List X) (x : X) → n + length xs ≡ m → enumerate_from n (xs ++ x ∷ []) ≡ enumerate_from n xs ++ (m, x) ∷ []
enumerate_from-push n m [] x e = let q : n ≡ m = omega arith in rw q refl
enumerate_from-push n m (y ∷ xs) x e = let q : n + 1 + length xs ≡ m = omega arith in ap (λ zs. (n, y) ∷ zs) (enumerate_from-push (n + 1) m xs x q)

-- what numbered elements make, where one has more come
pub flat_map-numbered : {X Y : Type 0} (f : ℕ × X → List Y) (xs : List X) (i : ℕ) (x : X) → i < length xs → x ≡ get_or xs i x
    → flat_map f (enumerate_from 0 (take (i + 1) xs)) ≡ flat_map f (enumerate_from 0 (take i xs)) ++ f (i, x)
flat_map-numbered f xs i x lt e =
    let long : 0 + length (take i xs) ≡ i = omega (arith, length-take i xs) in
    let t : take (i + 1) xs ≡ take i xs ++ x ∷ [] = take_more xs i x lt ∙ ap (λ y. take i xs ++ y ∷ []) (sym e) in
    ap (λ ys. flat_map f (enumerate_from 0 ys)) t ∙ ap (flat_map f) (enumerate_from-push 0 i (take i xs) x long)
    ∙ flat_map-append f (enumerate_from 0 (take i xs)) ((i, x) ∷ []) ∙ ap (λ ys. flat_map f (enumerate_from 0 (take i xs)) ++ ys) (append-nil (f (i, x)))

-- a field's output ports don't depend on its number
shown_numbered : (k : ℕ) (path : List ℕ) (ss : List Shown) → map output (map (λ s. outlet (shown_word s ++ path) 1 (shown_item k s)) ss) ≡ shown_ports path ss
shown_numbered k path [] = refl
shown_numbered k path (s ∷ ss) = ap (λ ps. record { dir = Out; name = shown_word s ++ path; width = 1 } ∷ ps) (shown_numbered k path ss)

pub outlets_numbered : (k : ℕ) (f : Field) → map output (field_outlets (k, f)) ≡ outlet_ports f
outlets_numbered k f = by f.hw_reads
  where
    by : (c : Bool) → map output (when c (outlet (codes "out$" ++ f.path) f.width (item.Field k)) ++ map (λ s. outlet (shown_word s ++ f.path) 1 (shown_item k s)) f.shown)
        ≡ when c (record { dir = Out; name = codes "out$" ++ f.path; width = f.width }) ++ shown_ports f.path f.shown
    by true = ap (λ ps. record { dir = Out; name = codes "out$" ++ f.path; width = f.width } ∷ ps) (shown_numbered k f.path f.shown)
    by false = shown_numbered k f.path f.shown

-- two pieces more
pub joined : {X : Type 0} (start old mid new before after part first second : List X) → old ≡ start ++ before → mid ≡ old ++ first → new ≡ mid ++ second → after ≡ before ++ part → part ≡ first ++ second → new ≡ start ++ after
joined start old mid new before after part first second a b c d e =
    c ∙ ap (λ xs. xs ++ second) (b ∙ ap (λ xs. xs ++ first) a) ∙ append_assoc (start ++ before) first second ∙ append_assoc start before (first ++ second)
    ∙ ap (λ xs. start ++ (before ++ xs)) (sym e) ∙ ap (λ xs. start ++ xs) (sym d)
