-- Facts that are found one node after the other.
use Rattle.std.proofs.Common.{◌≡◌, ◌∙◌, ℕ, zero, suc, ◌+◌, ◌<◌, ◌≤◌, ◌⊎◌, inl, inr, true, List, [], ◌∷◌, ◌++◌, get_or, length, None, Some, Vec, option_map, slice_get, slice_index_or, refl, sym, ap, subst, arith}
use Rattle.std.specs.Global.{Global}
use Rattle.std.specs.List.{All}
use Rattle.std.proofs.lemmas.List.{length-map}
use Rattle.std.proofs.lemmas.List.Elements.{All-push}
use Rattle.std.proofs.lemmas.Option.{slice_get-map}
use Rattle.plain_lemmas.proofs.Numbers.{below_next-swapped as either}
use Rattle.rdl_tree.specs.declared.node.Elab.{Elab}
use Rattle.rdl_tree.specs.declared.node.Node.{Node}
use Rattle.rdl_values.specs.Elaborated.{Says, nodes_of, top_name}
use Rattle.rdl_values.specs.Elaboration.{IsClean}
use Rattle.rdl_values.specs.Instances.{Instance, kind_of}
use Rattle.rdl_values.specs.Lineages.{Lineage, lineages_of}
use Rattle.rdl_values.specs.Parts.{is_unit}
use Rattle.rdl_values.proofs.Numbered.{counted}
use Rattle.rdl_nodes.proofs.Lineages.{all_nodes}
use Rattle.rdl_nodes.proofs.Members.{get-within, in-to, place-in}
use Rattle.rdl_nodes.specs.Rows.{AreRows, AreRowsFrom, IsRow}
use Rattle.rdl_nodes.specs.declared.table.Row.{Row}
use Rattle.rdl_layers.specs.Answers.{IsSettled}
use Rattle.rdl_layers.specs.Phase4.{width_of}
use Rattle.rdl_layers.specs.Tables.{entries_at}
use Rattle.rdl_layers.specs.declared.props.PropSetting.{PropSetting}
use Rattle.rdl_rules.specs.Facts.{AreFacts, IsFact, fact_at}
use Rattle.rdl_rules.specs.declared.fact.Fact.{Fact}
use Rattle.rdl_open_bodies.specs.Spots.{IsOpenTree, IsSpot}
use Rattle.rdl_open_bodies.specs.declared.spots.OpenTree.{OpenTree}
use Rattle.rdl_open_bodies.specs.declared.spots.Spot.{Spot}
use Rattle.rdl_facts.specs.Table.{AreNumbersOf}
use Rattle.rdl_facts.specs.declared.table.EnumNumbers.{EnumNumbers}
use Rattle.rdl_facts.specs.Told.{AreTold, IsTold}
use Rattle.rdl_facts.proofs.Narrow.{narrow}
use Rattle.rdl_facts.proofs.Round.{none_there, spot_there}

-- Rows and nodes by number.

record IsRowAt (e : Elab) (k : ℕ) (x : Row) : Type 0 where
  node : Instance
  here : slice_get (nodes_of e) k ≡ Some node
  beside : List Node
  says : Says beside x.node.now node

record Found (e : Elab) (all : List Lineage) (k : ℕ) (x : Row) (ls : List Lineage) (i : ℕ) : Type 0 where
  l : Lineage
  here : slice_get ls i ≡ Some l
  row : IsRow e all k x l

find-row : (e : Elab) (all : List Lineage) (at : ℕ) (xs : List Row) (ls : List Lineage) (i : ℕ) (d : Row) → i < length xs → AreRowsFrom e all at xs ls → Found e all (at + i) (get_or xs i d) ls i
find-row e all at [] ls i d l h = absurd (omega (arith, l))
find-row e all at (x ∷ xs) [] i d l h = absurd h
find-row e all at (x ∷ xs) (m ∷ ls) zero d l h = record { l = m; here = refl; row = (let z : at ≡ at + 0 = omega arith in subst (λ k. IsRow e all k x m) z h.0) }
find-row e all at (x ∷ xs) (m ∷ ls) (suc i) d l h =
    let rec = find-row e all (suc at) xs ls i d (omega (arith, l)) h.1 in
    let z : suc at + i ≡ at + suc i = omega arith in
    record { l = rec.l; here = rec.here; row = subst (λ k. IsRow e all k (get_or xs i d) rec.l) z rec.row }

row-at : (e : Elab) (xs : List Row) (i : ℕ) (d : Row) → i < length xs → AreRows e xs → IsRowAt e i (get_or xs i d)
row-at e xs i d l rows =
    let f = find-row e (lineages_of e) 0 xs (lineages_of e) i d l rows in
    record {
      node = f.l.node;
      here = ap (λ ns. slice_get ns i) (sym (all_nodes (Some (top_name e)) e.source.now)) ∙ slice_get-map (λ (l : Lineage). l.node) (lineages_of e) i ∙ ap (λ o. option_map (λ (x : Lineage). x.node) o) f.here;
      beside = f.row.beside;
      says = f.row.says;
    }

rows-length : (e : Elab) (all : List Lineage) (at : ℕ) (xs : List Row) (ls : List Lineage) → AreRowsFrom e all at xs ls → length xs ≡ length ls
rows-length e all at [] [] h = refl
rows-length e all at [] (m ∷ ls) h = absurd h
rows-length e all at (x ∷ xs) [] h = absurd h
rows-length e all at (x ∷ xs) (m ∷ ls) h = ap suc (rows-length e all (suc at) xs ls h.1)

rows-count : (e : Elab) (xs : List Row) → IsClean e → AreRows e xs → length xs ≡ e.count
rows-count e xs clean h =
    let a = rows-length e (lineages_of e) 0 xs (lineages_of e) h in
    let b = length-map (lineages_of e) (λ (l : Lineage). l.node) in
    let c = ap length (all_nodes (Some (top_name e)) e.source.now) in
    let d = counted (Some (top_name e)) e.source.now e clean.elaborated.tree in
    omega (arith, a, b, c, d)

-- What the loop over the rows keeps.

-- the facts of the first nodes are known
abbrev Known : Elab → ℕ → List Fact → Type 0
Known e i facts = (k : ℕ) (n : Instance) → k < i → slice_get (nodes_of e) k ≡ Some n → is_unit (kind_of n) ≡ true → IsFact (fact_at facts k) n

pub record FactsTo (xs : List Row) (tree : OpenTree) (es : List (Vec PropSetting Global)) (i : ℕ) (facts : List Fact) : Type 0 where
  pub many : length facts ≡ i
  pub within : i ≤ length xs
  pub low : All (λ (f : Fact). f.width ≤ 64) facts
  pub known : (e : Elab) → IsClean e → IsSettled e → AreRows e xs → IsOpenTree e tree → AreTold e es → Known e i facts

before-end : (xs : List Fact) (x d : Fact) (k : ℕ) → k < length xs → slice_index_or (xs ++ (x ∷ [])) k d ≡ slice_index_or xs k d
before-end [] x d k l = absurd (omega (arith, l))
before-end (y ∷ ys) x d zero l = refl
before-end (y ∷ ys) x d (suc k) l = before-end ys x d k (omega (arith, l))

at-end : (xs : List Fact) (x d : Fact) (k : ℕ) → k ≡ length xs → slice_index_or (xs ++ (x ∷ [])) k d ≡ x
at-end [] x d zero e = refl
at-end [] x d (suc k) e = absurd (omega (arith, e))
at-end (y ∷ ys) x d zero e = absurd (omega (arith, e))
at-end (y ∷ ys) x d (suc k) e = at-end ys x d k (omega (arith, e))

length-push : (xs : List Fact) (x : Fact) → length (xs ++ (x ∷ [])) ≡ length xs + 1
length-push [] x = refl
length-push (y ∷ ys) x = let l = length-push ys x in omega (arith, l)

pub none_to : (xs : List Row) (tree : OpenTree) (es : List (Vec PropSetting Global)) (facts : List Fact) → facts ≡ [] → FactsTo xs tree es 0 facts
none_to xs tree es [] e = record { many = refl; within = omega arith; low = λ k d l. absurd (omega (arith, l)); known = λ e clean settled rows open_ told k n l. absurd (omega (arith, l)) }
none_to xs tree es (f ∷ fs) e = cc e

pub more_to : (xs : List Row) (tree : OpenTree) (enums : EnumNumbers) (es : List (Vec PropSetting Global)) (i : ℕ) (d : Row) (o : Spot) (facts : List Fact) (fact : Fact) → i < length xs → slice_get tree.spots.items i ≡ Some o → AreNumbersOf enums tree.bodies → FactsTo xs tree es i facts → fact.width ≤ 64
    → ((e : Elab) (n : Instance) (beside : List Node) → IsTold e tree enums o (entries_at es i) n → Says beside (get_or xs i d).node.now n → is_unit (kind_of n) ≡ true → width_of n ≤ 64 → IsFact fact n) → FactsTo xs tree es (i + 1) (facts ++ (fact ∷ []))
more_to xs tree enums es i d o facts fact l listed numbers before low one = record {
  many = (let a = length-push facts fact in let b = before.many in omega (arith, a, b));
  within = omega arith;
  low = All-push (λ (f : Fact). f.width ≤ 64) facts fact before.low low;
  known = λ e clean settled rows open_ told k n less here unit. go e clean settled rows open_ told k n here unit (either i k less);
}
  where
    go : (e : Elab) → IsClean e → IsSettled e → AreRows e xs → IsOpenTree e tree → AreTold e es → (k : ℕ) (n : Instance) → slice_get (nodes_of e) k ≡ Some n → is_unit (kind_of n) ≡ true → (k < i) ⊎ (k ≡ i) → IsFact (fact_at (facts ++ (fact ∷ [])) k) n
    go e clean settled rows open_ told k n here unit (inl less) =
        let many = before.many in
        subst (λ f. IsFact f n) (sym (before-end facts fact _ k (omega (arith, less, many)))) (before.known e clean settled rows open_ told k n less here unit)
    go e clean settled rows open_ told k n here unit (inr same) =
        let at : slice_get (nodes_of e) i ≡ Some n = subst (λ j. slice_get (nodes_of e) j ≡ Some n) same here in
        let x = row-at e xs i d l rows in
        let s = spot_there e tree.bodies tree.spots.items (nodes_of e) i o open_.nodes_ listed in
        let row : Some x.node ≡ Some n = sym x.here ∙ at in
        let row-same : x.node ≡ n = cc in
        let spot : Some s.node ≡ Some n = sym s.here ∙ at in
        let spot-same : s.node ≡ n = cc in
        let among = place-in (nodes_of e) i n at in
        let found : IsTold e tree enums o (entries_at es i) n = record { clean = clean; open_ = open_; numbers = numbers; there = in-to (nodes_of e) n among; spot = subst (IsSpot e tree.bodies o) spot-same s.spot; entries = told.each i n at } in
        subst (λ f. IsFact f n) (sym (at-end facts fact _ k (same ∙ sym before.many))) (one e n x.beside found (subst (Says x.beside (get_or xs i d).node.now) row-same x.says) unit (narrow e n settled among unit))

pub no_spot : (e : Elab) (xs : List Row) (tree : OpenTree) (i : ℕ) (d : Row) → i < length xs → AreRows e xs → IsOpenTree e tree → slice_get tree.spots.items i ≡ None → ⊥
no_spot e xs tree i d l rows open_ none =
    let x = row-at e xs i d l rows in
    let both : Some x.node ≡ None = sym x.here ∙ none_there e tree.bodies tree.spots.items (nodes_of e) i open_.nodes_ none in
    cc

pub all_to : (xs : List Row) (tree : OpenTree) (es : List (Vec PropSetting Global)) (i : ℕ) (facts : List Fact) → length xs ≤ i → FactsTo xs tree es i facts → (e : Elab) → IsClean e → IsSettled e → AreRows e xs → IsOpenTree e tree → AreTold e es → AreFacts e facts
all_to xs tree es i facts l to e clean settled rows open_ told =
    let size = rows-count e xs clean rows in
    let total = counted (Some (top_name e)) e.source.now e clean.elaborated.tree in
    let many = to.many in
    let within = to.within in
    record {
      all_nodes = omega (arith, size, many, within, l);
      narrow = to.low;
      of_each = λ k n here unit. let inside = get-within (nodes_of e) k n here in to.known e clean settled rows open_ told k n (omega (arith, inside, total, size, l)) here unit;
    }
