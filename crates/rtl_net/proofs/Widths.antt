-- The widths of nodes by their numbers.
use Rattle.std.specs.List.{slice_get, AllByRecursion, list_any}
use Rattle.std.specs.Str.{bytes_eq}
use Rattle.std.proofs.Common.{zero, suc, ℕ, ◌+◌, ◌≡◌, ◌<◌, ◌≤◌, Bool, true, false, ◌||◌, if◌then◌else◌, List, [], ◌∷◌, ◌++◌, length, get_or, take, Some, None, inl, inr, refl, ap, sym, ◌∙◌, arith, length-append}
use Rattle.std.proofs.lemmas.Bool.{cases_Bool, cases_lt, OnTrue_at}
use Rattle.std.proofs.lemmas.Slice.Eq.{bytes_eq-Decides}
use Rattle.rtl_net.specs.Names.{clock}
use Rattle.rtl_net.specs.Value.{widths_after, node_width, expr_width, operands}
use Rattle.rtl_net.specs.Net.{Net, widths, width_in, IsInput, HasClock, is_clock}
use Rattle.rtl_net.specs.Made.{IsMade, IsNodeMade}
use Rattle.rtl_net.specs.declared.node.Id.{Id}
use Rattle.rtl_net.specs.declared.node.NetNode.{NetNode}
use Rattle.rtl_net.specs.declared.node.NetNode.TheVariants.{Input, Register, Wire}
use Rattle.rtl_net.specs.declared.node.NetExpr.{NetExpr}
use Rattle.rtl_net.specs.declared.node.NetExpr.TheVariants.{Const, Part, Cat, Not, All, Any, Odd, Add, Sub, And, Or, Xor, Eq, Lt, Pick}
use Rattle.rtl_net.proofs.Places.{item_at}
use Rattle.rtl_net.proofs.NodeLists.{length-widths}
use Rattle.plain_lemmas.proofs.Lists.{get_or-end, get_or-front}

longer : (ws : List ℕ) (w : ℕ) → length (ws ++ w ∷ []) ≡ length ws + 1
longer ws w = simp length-append

-- the first widths stay
pub widths_after-front : (ws : List ℕ) (ns : List NetNode) (i : ℕ) → i < length ws → get_or (widths_after ws ns) i 0 ≡ get_or ws i 0
widths_after-front ws [] i h = refl
widths_after-front ws (m ∷ ns) i h =
    widths_after-front (ws ++ node_width ws m ∷ []) ns i (omega (arith, longer ws (node_width ws m))) ∙ get_or-front ws (node_width ws m) i h

-- the widths before a node are those of the whole netlist
pub widths_after-take : (ws : List ℕ) (ns : List NetNode) (i j : ℕ) → i ≤ length ns → j < length ws + i → get_or (widths_after ws (take i ns)) j 0 ≡ get_or (widths_after ws ns) j 0
widths_after-take ws [] zero j l h = refl
widths_after-take ws [] (suc i) j l h = absurd (omega arith)
widths_after-take ws (m ∷ ns) zero j l h =
    let h' : j < length ws = omega arith in
    sym (widths_after-front ws (m ∷ ns) j h')
widths_after-take ws (m ∷ ns) (suc i) j l h = widths_after-take (ws ++ node_width ws m ∷ []) ns i j (omega arith) (omega (arith, longer ws (node_width ws m)))

-- a node's width, from the widths before it
pub widths_after-at : (ws : List ℕ) (ns : List NetNode) (i : ℕ) (n : NetNode) → slice_get ns i ≡ Some n
    → get_or (widths_after ws ns) (length ws + i) 0 ≡ node_width (widths_after ws (take i ns)) n
widths_after-at ws [] i n h = absurd (let q : None ≡ Some n = h in cc)
widths_after-at ws (m ∷ ns) zero n h =
    let e : m ≡ n = cc in
    let b : length ws + 0 < length (ws ++ node_width ws m ∷ []) = omega (arith, longer ws (node_width ws m)) in
    widths_after-front (ws ++ node_width ws m ∷ []) ns (length ws + 0) b ∙ get_or-end ws (node_width ws m) (length ws + 0) (omega arith) ∙ ap (node_width ws) e
widths_after-at ws (m ∷ ns) (suc i) n h =
    let e : length ws + suc i ≡ length (ws ++ node_width ws m ∷ []) + i = omega (arith, longer ws (node_width ws m)) in
    ap (λ k. get_or (widths_after ws (m ∷ ns)) k 0) e ∙ widths_after-at (ws ++ node_width ws m ∷ []) ns i n h

-- an expression's width looks at its operands alone
pub expr_width-agree : (us ws : List ℕ) (i : ℕ) → ((j : ℕ) → j < i → get_or us j 0 ≡ get_or ws j 0) → (e : NetExpr) → AllByRecursion (λ a. a.0 < i) (operands e) → expr_width us e ≡ expr_width ws e
expr_width-agree us ws i h (Const w x) b = refl
expr_width-agree us ws i h (Part a hi lo) b = refl
expr_width-agree us ws i h (Cat x y) b = rw (h x.0 b.0, h y.0 b.1.0) refl
expr_width-agree us ws i h (Not x) b = h x.0 b.0
expr_width-agree us ws i h (All x) b = refl
expr_width-agree us ws i h (Any x) b = refl
expr_width-agree us ws i h (Odd x) b = refl
expr_width-agree us ws i h (Add x y) b = h x.0 b.0
expr_width-agree us ws i h (Sub x y) b = h x.0 b.0
expr_width-agree us ws i h (And x y) b = h x.0 b.0
expr_width-agree us ws i h (Or x y) b = h x.0 b.0
expr_width-agree us ws i h (Xor x y) b = h x.0 b.0
expr_width-agree us ws i h (Eq x y) b = refl
expr_width-agree us ws i h (Lt x y) b = refl
expr_width-agree us ws i h (Pick c x y) b = h x.0 b.1.0

pub node_width-agree : (net : Net) (us ws : List ℕ) (i : ℕ) → ((j : ℕ) → j < i → get_or us j 0 ≡ get_or ws j 0) → (n : NetNode) → IsNodeMade net i n → node_width us n ≡ node_width ws n
node_width-agree net us ws i h (Input name w) m = refl
node_width-agree net us ws i h (Register name w reset next) m = refl
node_width-agree net us ws i h (Wire e) m = expr_width-agree us ws i h e m.1

-- a node's width in a well-made netlist
pub width_at : (net : Net) → IsMade net → (i : ℕ) (n : NetNode) → slice_get net.nodes i ≡ Some n → i < length net.nodes → get_or (widths net) i 0 ≡ node_width (widths net) n
width_at net made i n h l =
    let z : 0 + i ≡ i = omega arith in
    ap (λ k. get_or (widths net) k 0) (sym z) ∙ widths_after-at [] net.nodes i n h
    ∙ node_width-agree net (widths_after [] (take i net.nodes)) (widths net) i (λ j b. widths_after-take [] net.nodes i j (omega arith) (omega arith)) n (made.nodes i n h)

if_most : (b : Bool) (w : ℕ) → w ≤ 128 → (if b then 0 else w) ≤ 128
if_most true w h = omega arith
if_most false w h = h

most_of : (net : Net) (i : ℕ) (n : NetNode) → IsNodeMade net i n → node_width (widths net) n ≤ 128
most_of net i (Input name w) m = if_most (bytes_eq name clock) w m.0.1
most_of net i (Register name w reset next) m = m.0.1
most_of net i (Wire e) m = m.2

past : (xs : List ℕ) (i : ℕ) → length xs ≤ i → get_or xs i 0 ≡ 0
past [] i h = refl
past (x ∷ xs) zero h = absurd (omega arith)
past (x ∷ xs) (suc i) h = past xs i (omega arith)

-- no width is above 128
pub width_most : (net : Net) → IsMade net → (id : Id) → width_in net id ≤ 128
width_most net made id = elim (cases_lt id.0 (length net.nodes)) [
  | inl l ↦ let r = item_at net.nodes id.0 l in
      let e : width_in net id ≡ node_width (widths net) r.0 = width_at net made id.0 r.0 r.1 l in
      let m : node_width (widths net) r.0 ≤ 128 = most_of net id.0 r.0 (made.nodes id.0 r.0 r.1) in
      omega arith
  | inr l ↦ let e : width_in net id ≡ 0 = past (widths net) id.0 (rw (length-widths net.nodes) l) in omega arith
]

-- an input other than the clock has its width
pub input_width : (net : Net) → IsMade net → (id : Id) (name : List ℕ) (w : ℕ) → IsInput net id name w → bytes_eq name clock ≡ false → id.0 < length net.nodes → width_in net id ≡ w
input_width net made id name w h other l = width_at net made id.0 (Input name w) h.is l ∙ ap (λ b. if b then 0 else w) other

-- the clock stands as an input of one bit
clock_place : (ns : List NetNode) → list_any is_clock ns ≡ true → (i : ℕ) × (name : List ℕ) × (w : ℕ) × (slice_get ns i ≡ Some (Input name w)) × (bytes_eq name clock ≡ true)
clock_place [] h = absurd (let q : false ≡ true = h in cc)
clock_place (Input name w ∷ ns) h = elim (cases_Bool (bytes_eq name clock)) [
  | inl b ↦ (0, name, w, refl, b)
  | inr b ↦ let r = clock_place ns (sym (ap (λ x. x || list_any is_clock ns) b) ∙ h) in (suc r.0, r.1, r.2, r.3, r.4)
]
clock_place (Register name w reset next ∷ ns) h = let r = clock_place ns h in (suc r.0, r.1, r.2, r.3, r.4)
clock_place (Wire e ∷ ns) h = let r = clock_place ns h in (suc r.0, r.1, r.2, r.3, r.4)

pub clock_stands : (net : Net) → IsMade net → HasClock net → (k : Id) × IsInput net k clock 1
clock_stands net made h =
    let r = clock_place net.nodes h in
    let e : r.1 ≡ clock = (bytes_eq-Decides r.1 clock).0 r.4 in
    let one : r.2 ≡ 1 = OnTrue_at r.4 (made.nodes r.0 (Input r.1 r.2) r.3).1 in
    (record { 0 = r.0 }, record { is = r.3 ∙ ap (λ n. Some (Input n r.2)) e ∙ ap (λ u. Some (Input clock u)) one })
