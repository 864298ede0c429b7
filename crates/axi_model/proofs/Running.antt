-- A sound block behind an AXI4-Lite slave port has one run from what is kept, over given vectors.
use Rattle.std.proofs.Common.{◌≡◌, ℕ, List, [], ◌∷◌, ◌++◌, refl, sym, ap, ◌∙◌, subst}
use Rattle.rb_model.specs.declared.block.Block.{Block}
use Rattle.rb_model.specs.Machine.{next}
use Rattle.rb_model.specs.Sound.{IsSound}
use Rattle.rb_model.proofs.ItemValues.{are_one, are_values, item_value}
use Rattle.rb_model.proofs.Runs.{only_kept_same}
use Rattle.rb_model.proofs.SameEdge.{next_same, outputs_same, read_same}
use Rattle.rb_model.specs.Front.{FrontEdge, FrontRun, pins_at}
use Rattle.axi_model.specs.Channels.{channel_pins, channels_shown, next_channels}
use Rattle.axi_model.specs.Axi.{AxiKept, after, axi, channels_at, found, shown}

module _ (b : Block) (sound : IsSound b) where
  -- what an edge makes
  record SomeEdge (k : AxiKept) (x : List ℕ) : Type 0 where
    outs : List ℕ
    later : AxiKept
    edge : FrontEdge (axi b) k x outs later

  edge_from : (k : AxiKept) (x : List ℕ) → SomeEdge k x
  edge_from k x =
      let p = pins_at (axi b) x in
      let v = item_value b (found b p k) in
      record { outs = shown b p k v; later = after b p k v; edge = record { items = v; valued = are_values b (found b p k) sound; seen = refl; moved = refl } }

  pub run_from : (k : AxiKept) (vectors : List (List ℕ)) → (outs : List (List ℕ)) × FrontRun (axi b) k vectors outs
  run_from k [] = ([], tt)
  run_from k (x ∷ xs) =
      let first = edge_from k x in
      let rest = run_from first.later xs in
      (first.outs ∷ rest.0, (first.later, first.edge, rest.1))

  record OneEdge (outs outs' : List ℕ) (later later' : AxiKept) : Type 0 where
    outs_same : outs ≡ outs'
    later_same : later ≡ later'

  one_edge : (k : AxiKept) (x outs outs' : List ℕ) (later later' : AxiKept) → FrontEdge (axi b) k x outs later → FrontEdge (axi b) k x outs' later' → OneEdge outs outs' later later'
  one_edge k x outs outs' later later' e f =
      let p = pins_at (axi b) x in
      let n = found b p k in
      let values = are_one b n sound e.items f.items e.valued f.valued in
      let fields = only_kept_same b (next b n e.items) (next b n f.items) (next_same b n e.items f.items values sound) in
      let answers = read_same b n e.items f.items values sound n.access in
      let channels = ap (next_channels b (channel_pins p) (channels_at p k)) answers in
      let same : after b p k e.items ≡ after b p k f.items = λ i. record { fields = fields i; channels = channels i } in
      record {
        outs_same = e.seen ∙ ap (λ os. channels_shown (channel_pins p) (channels_at p k) ++ os) (outputs_same b n e.items f.items values sound) ∙ sym f.seen;
        later_same = e.moved ∙ same ∙ sym f.moved;
      }

  pub one_run : (k : AxiKept) (vectors first second : List (List ℕ)) → FrontRun (axi b) k vectors first → FrontRun (axi b) k vectors second → first ≡ second
  one_run k [] [] [] h g = refl
  one_run k [] [] (p ∷ ps) h g = absurd g
  one_run k [] (o ∷ os) ps h g = absurd h
  one_run k (x ∷ xs) [] ps h g = absurd h
  one_run k (x ∷ xs) (o ∷ os) [] h g = absurd g
  one_run k (x ∷ xs) (o ∷ os) (p ∷ ps) h g =
      let e = one_edge k x o p h.0 g.0 h.1 g.1 in
      let R : AxiKept → Type 0 = λ a. FrontRun (axi b) a xs ps in
      let rest : os ≡ ps = one_run h.0 xs os ps h.2 (subst R (sym e.later_same) g.2) in
      λ i. e.outs_same i ∷ rest i
