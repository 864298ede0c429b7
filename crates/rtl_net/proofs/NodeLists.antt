-- Lists of nodes: their widths.
use Rattle.std.specs.List.{slice_get}
use Rattle.std.proofs.Math.ListN.{set}
use Rattle.std.proofs.Common.{zero, suc, ℕ, ◌+◌, ◌≡◌, List, [], ◌∷◌, ◌++◌, length, Option, Some, None, refl, ap, sym, ◌∙◌, arith, zero-add, length-append}
use Rattle.rtl_net.specs.Value.{widths_after, node_width}
use Rattle.rtl_net.specs.declared.node.Id.{Id}
use Rattle.rtl_net.specs.declared.node.NetReset.{NetReset}
use Rattle.rtl_net.specs.declared.node.NetNode.{NetNode}
use Rattle.rtl_net.specs.declared.node.NetNode.TheVariants.{Register}

pub widths_after-push : (ws : List ℕ) (ns : List NetNode) (n : NetNode)
    → widths_after ws (ns ++ n ∷ []) ≡ widths_after ws ns ++ node_width (widths_after ws ns) n ∷ []
widths_after-push ws [] n = refl
widths_after-push ws (m ∷ ns) n = widths_after-push (ws ++ node_width ws m ∷ []) ns n

pub length-widths_after : (ws : List ℕ) (ns : List NetNode) → length (widths_after ws ns) ≡ length ws + length ns
length-widths_after ws [] = omega arith
length-widths_after ws (m ∷ ns) =
    let ih : length (widths_after (ws ++ node_width ws m ∷ []) ns) ≡ length (ws ++ node_width ws m ∷ []) + length ns = length-widths_after (ws ++ node_width ws m ∷ []) ns in
    grind (arith, ih, length-append)

pub length-widths : (ns : List NetNode) → length (widths_after [] ns) ≡ length ns
length-widths ns = length-widths_after [] ns ∙ zero-add (length ns)

-- a register that is tied keeps the widths
module _ (name : List ℕ) (w : ℕ) (reset : NetReset) (next : Option Id) where
  pub widths_after-set : (ws : List ℕ) (ns : List NetNode) (i : ℕ) → slice_get ns i ≡ Some (Register name w reset None)
      → widths_after ws (set ns i (Register name w reset next)) ≡ widths_after ws ns
  widths_after-set ws [] i h = refl
  widths_after-set ws (m ∷ ns) zero h = let e : m ≡ Register name w reset None = cc in rw e refl
  widths_after-set ws (m ∷ ns) (suc i) h = widths_after-set (ws ++ node_width ws m ∷ []) ns i h

-- a width and its node are put at the end
pub widths-pushed : (ns ns' : List NetNode) (us us' : List ℕ) (n : NetNode) (w : ℕ) → us ≡ widths_after [] ns → us' ≡ us ++ w ∷ [] → w ≡ node_width (widths_after [] ns) n → ns' ≡ ns ++ n ∷ [] → us' ≡ widths_after [] ns'
widths-pushed ns ns' us us' n w a b c e =
    b ∙ ap (λ l. l ++ w ∷ []) a ∙ ap (λ x. widths_after [] ns ++ x ∷ []) c ∙ sym (widths_after-push [] ns n) ∙ ap (λ l. widths_after [] l) (sym e)

-- a width and its node are taken away
pub widths-popped : (ns : List NetNode) (us us' : List ℕ) (n : NetNode) → us ≡ widths_after [] (ns ++ n ∷ []) → ((front : List ℕ) (last : ℕ) → us ≡ front ++ last ∷ [] → us' ≡ front) → us' ≡ widths_after [] ns
widths-popped ns us us' n a h = h (widths_after [] ns) (node_width (widths_after [] ns) n) (a ∙ widths_after-push [] ns n)
