-- The nodes of a tree, judged one by one.
use Rattle.std.proofs.Common.{◌≡◌, ◌∙◌, ℕ, zero, suc, ◌+◌, ◌<◌, ◌≤◌, Bool, true, false, cond, List, [], ◌∷◌, ◌++◌, length, filter, flat_map, get_or, take, slice_get, append-nil, Some, refl, sym, ap, arith}
use Rattle.std.specs.List.{All}
use Rattle.std.proofs.lemmas.Grind.{flat_map-append}
use Rattle.std.proofs.lemmas.List.{take_all, take_more}
use denote.Enum.Bare.{same_true}
use Rattle.rdl_base.specs.declared.fault.Fault.{Fault}
use Rattle.rdl_tree.specs.contracts.item.Kind as of_kind
use Rattle.rdl_tree.specs.declared.item.Kind.TheVariants as kinds
use Rattle.rdl_tree.specs.declared.node.Elab.{Elab}
use Rattle.rdl_tree.specs.declared.node.Node.{Node, out-Node}
use Rattle.rdl_values.specs.Elaborated.{nodes_of}
use Rattle.rdl_values.specs.Elaboration.{IsClean}
use Rattle.rdl_values.specs.Instances.{Instance, kind_of}
use Rattle.rdl_values.specs.Lineages.{Lineage, lineages_of}
use Rattle.rdl_values.specs.Parts.{is_unit}
use Rattle.rdl_values.specs.Verdict.{with}
use Rattle.rdl_failures.specs.Noted.{with_all}
use Rattle.rdl_failures.proofs.Sets.{with_all-append}
use Rattle.rdl_layers.specs.Fields.{is_a}
use Rattle.rdl_nodes.specs.declared.table.Row.{Row}
use Rattle.rdl_nodes.specs.Rows.{AreInside, AreRows, IsRow}
use Rattle.rdl_fields.proofs.Beside.{AreBeside}
use Rattle.rdl_nodes.proofs.Members.{get-read, get-within}
use Rattle.rdl_sizes.proofs.Facts.{count-is, node-at, nodes-many, row-at, rows-many}
use Rattle.rdl_sizes.proofs.Turns.{read-at}
use Rattle.rdl_reset_rules.specs.Said.{AreSaid, IsSaid}

-- A row, and the instance that its node is.
pub record Known (e : Elab) (at : ℕ) (x : Row) : Type 0 where
  pub of : Lineage
  pub here : slice_get (lineages_of e) at ≡ Some of
  pub row : IsRow e (lineages_of e) at x of

pub known : (e : Elab) (rows : List Row) → AreRows e rows → (at : ℕ) (x : Row) → at < length rows → x ≡ get_or rows at x → Known e at x
known e rows h at x low is = let r = row-at e rows h at x (read-at rows at x low is) in record { of = r.0; here = r.1; row = r.2 }

pub said-by : (e : Elab) (at : ℕ) (x : Row) → (k : Known e at x) → IsSaid e x.node.now k.of.node
said-by e at x k = record {
  here = ap (slice_get (nodes_of e)) k.row.number ∙ node-at e at k.of k.here;
  kind_ = k.row.says.kind;
  place_ = k.row.says.place;
}

pub same-node : (e : Elab) (at : ℕ) (m n : Instance) → slice_get (nodes_of e) at ≡ Some m → slice_get (nodes_of e) at ≡ Some n → m ≡ n
same-node e at m n a b = let p : Some m ≡ Some n = sym a ∙ b in cc p

pub field-unit : (n : Instance) → is_a kinds.Field n ≡ true → is_unit (kind_of n) ≡ true
field-unit n e = ap is_unit (sym (same_true of_kind.the_type tt kinds.Field (kind_of n) e))

pub inside-said : (e : Elab) (up : List Instance) (b rs : List Node) (ns : List Instance) → AreInside (lineages_of e) up b rs ns → AreSaid e rs ns
inside-said e up b [] [] h = tt
inside-said e up b [] (n ∷ ns) h = absurd h
inside-said e up b (r ∷ rs) [] h = absurd h
inside-said e up b (r ∷ rs) (n ∷ ns) h = (record { here = node-at e (out-Node r).id (record { node = n; ancestors = up }) h.0.here; kind_ = h.0.says.kind; place_ = h.0.says.place }, inside-said e up b rs ns h.1)

pub beside-said : (e : Elab) (b rs : List Node) (ns : List Instance) → AreBeside (nodes_of e) b rs ns → AreSaid e rs ns
beside-said e b [] [] h = tt
beside-said e b [] (n ∷ ns) h = absurd h
beside-said e b (r ∷ rs) [] h = absurd h
beside-said e b (r ∷ rs) (n ∷ ns) h = (record { here = h.0.1; kind_ = h.0.0.kind; place_ = h.0.0.place }, beside-said e b rs ns h.1)

pub said-below : (e : Elab) → IsClean e → (rs : List Node) (ns : List Instance) → AreSaid e rs ns → All (λ r. (out-Node r).id < e.count) rs
said-below e clean rs ns h = λ i d low. go rs ns h i d low
  where
    go : (rs : List Node) (ns : List Instance) → AreSaid e rs ns → (i : ℕ) (d : Node) → i < length rs → (out-Node (get_or rs i d)).id < e.count
    go [] ns h i d low = absurd (omega (arith, low))
    go (r ∷ rs) [] h i d low = absurd h
    go (r ∷ rs) (n ∷ ns) h zero d low = let l = get-within (nodes_of e) (out-Node r).id n h.0.here in let c = count-is e clean in let m = nodes-many e in omega (arith, l, c, m)
    go (r ∷ rs) (n ∷ ns) h (suc i) d low = go rs ns h.1 i d (omega (arith, low))

-- One more.

pub one-more : {X : Type 0} (f : X → List Fault) (xs : List X) (i : ℕ) (x : X) (s t u : List Fault) → slice_get xs i ≡ Some x → t ≡ with_all (flat_map f (take i xs)) s → u ≡ with_all (f x) t → u ≡ with_all (flat_map f (take (i + 1) xs)) s
one-more f xs i x s t u at before put =
    let low = get-within xs i x at in
    let last : take (i + 1) xs ≡ take i xs ++ (x ∷ []) = take_more xs i x low ∙ ap (λ y. take i xs ++ (y ∷ [])) (get-read xs i x x at) in
    put ∙ (ap (with_all (f x)) before
    ∙ (sym (with_all-append (flat_map f (take i xs)) (f x) s)
    ∙ ap (λ fs. with_all fs s) (ap (λ fs. flat_map f (take i xs) ++ fs) (sym (append-nil (f x))) ∙ (sym (flat_map-append f (take i xs) (x ∷ [])) ∙ ap (flat_map f) (sym last)))))

pub all-nodes : (e : Elab) (rows : List Row) → AreRows e rows → (f : Instance → List Fault) (i : ℕ) → length rows ≤ i → (s t : List Fault) → t ≡ with_all (flat_map f (take i (nodes_of e))) s → t ≡ with_all (flat_map f (nodes_of e)) s
all-nodes e rows h f i past s t before =
    let m = nodes-many e in let r = rows-many e rows h in before ∙ ap (λ ns. with_all (flat_map f ns) s) (take_all i (nodes_of e) (omega (arith, m, r, past)))

pub those-alone : (p : Instance → Bool) (f : Instance → List Fault) (ns : List Instance) → flat_map (λ n. cond (p n) (f n) []) ns ≡ flat_map f (filter p ns)
those-alone p f [] = refl
those-alone p f (n ∷ ns) = go (p n) (those-alone p f ns)
  where
    go : (b : Bool) → flat_map (λ m. cond (p m) (f m) []) ns ≡ flat_map f (filter p ns) → cond b (f n) [] ++ flat_map (λ m. cond (p m) (f m) []) ns ≡ flat_map f (cond b (n ∷ filter p ns) (filter p ns))
    go true e = ap (λ fs. f n ++ fs) e
    go false e = e

pub put-more : (xs : List Fault) (i : ℕ) (d : Fault) (s t u : List Fault) → i < length xs → t ≡ with_all (take i xs) s → u ≡ with (get_or xs i d) t → u ≡ with_all (take (i + 1) xs) s
put-more xs i d s t u low before put =
    put ∙ (ap (with (get_or xs i d)) before ∙ (sym (with_all-append (take i xs) (get_or xs i d ∷ []) s) ∙ ap (λ fs. with_all fs s) (sym (take_more xs i d low))))
