-- The transfers of a run without reset belong together.
use Rattle.std.proofs.Common.{◌≡◌, ℕ, zero, suc, ◌+◌, ◌≤◌, ◌==◌, Bool, true, false, not, ◌&&◌, if◌then◌else◌, Some, List, [], ◌∷◌, ◌++◌, codes, length, map, slice_get, refl, ap, sym, ◌∙◌, subst, arith, append_assoc, append-nil}
use Rattle.rb_model.specs.declared.block.Block.{Block}
use Rattle.rb_model.specs.Kept.{Map}
use Rattle.std.specs.List.{AllByRecursion}
use Rattle.rb_model.specs.Ports.{by_name}
use Rattle.rb_model.specs.Front.{FrontEdge, FrontRun, front_outputs, pins_at}
use Rattle.std.proofs.lemmas.Option.{same_Some}
use Rattle.rb_model.specs.Machine.{read_data}
use Rattle.axi_model.specs.Channels.{Channels, channel_pins, idle, moved, read_response, reads, write_response, writes}
use Rattle.axi_model.specs.Axi.{AxiKept, axi, found}
use Rattle.axi_model.specs.Transfers.{AreTransfers, Moment, addresses, has_read_data, has_response, moments, read_addresses, read_responses, responses, strobes}
use Rattle.axi_model.proofs.Pending.{Begins, answers, answers_at, answers_short, begins_at, begins_short, map_at, map_short, one, taken_first}
use Rattle.axi_model.proofs.Edges.{AreBits, bits_after, bresp, bvalid, channels_are, idle_bits, rdata, reads_go, rresp, rvalid, still, still_read, writes_go}

-- a list that begins another, behind the same elements
begins_behind : (hs xs ys zs : List ℕ) → Begins xs ys → zs ≡ hs ++ ys → Begins (hs ++ xs) zs
begins_behind hs xs ys zs h e = record { rest = h.rest; is = append_assoc hs xs h.rest ∙ ap (λ vs. hs ++ vs) h.is ∙ sym e }

-- the first moments of a run
pub record Beginnings (b : Block) (c : Channels) (past : List Moment) : Type 0 where
  pub writes : Begins (responses past) (still b c (addresses past) (strobes past))
  pub reads : Begins (read_responses past) (still_read b c (read_addresses past))

module _ (b : Block) where
  abbrev IsOn : List ℕ → Type 0
  IsOn x = pins_at (axi b) x (codes "PRESETn") ≡ 1

  begin : (vectors outs : List (List ℕ)) (k : AxiKept) → AreBits k.channels → AllByRecursion IsOn vectors → FrontRun (axi b) k vectors outs
      → (past rest : List Moment) → moments b vectors outs ≡ past ++ rest → Beginnings b k.channels past
  begin vectors outs k bits on run [] rest e = record { writes = record { rest = _; is = refl }; reads = record { rest = _; is = refl } }
  begin [] [] k bits on run (m ∷ past) rest e = cc
  begin [] (o ∷ os) k bits on run (m ∷ past) rest e = absurd run
  begin (x ∷ xs) [] k bits on run (m ∷ past) rest e = absurd run
  begin (x ∷ xs) (o ∷ os) k bits on run (m ∷ past) rest e =
      let here : Moment = record { ins = pins_at (axi b) x; outs = by_name (front_outputs (axi b)) o } in
      let later : moments b xs os ≡ past ++ rest = cc in
      let same : m ≡ here = cc in
      let next = begin xs os run.0 (bits_after b k x o run.0 run.1 on.0 bits) on.1 run.2 past rest later in
      subst (λ n. Beginnings b k.channels (n ∷ past)) (sym same) (record {
        writes = subst (λ rs. Begins rs (still b k.channels (addresses (here ∷ past)) (strobes (here ∷ past)))) (sym (taken_first has_response (λ n. n.outs (codes "BRESP")) here past))
            (begins_behind (one (has_response here) (here.outs (codes "BRESP"))) (responses past) _ _ next.writes (writes_go b k x o run.0 run.1 on.0 bits past));
        reads = subst (λ rs. Begins rs (still_read b k.channels (read_addresses (here ∷ past)))) (sym (taken_first has_read_data (λ n. n.outs (codes "RRESP")) here past))
            (begins_behind (one (has_read_data here) (here.outs (codes "RRESP"))) (read_responses past) _ _ next.reads (reads_go b k x o run.0 run.1 on.0 bits past));
      })

  -- an answer that isn't taken stands

  record Stand (m n : Moment) : Type 0 where
    write : m.outs (codes "BVALID") ≡ 1 → m.ins (codes "BREADY") ≡ 0 → (n.outs (codes "BVALID") ≡ 1) × (n.outs (codes "BRESP") ≡ m.outs (codes "BRESP"))
    read : m.outs (codes "RVALID") ≡ 1 → m.ins (codes "RREADY") ≡ 0 → (n.outs (codes "RVALID") ≡ 1) × (n.outs (codes "RDATA") ≡ m.outs (codes "RDATA")) × (n.outs (codes "RRESP") ≡ m.outs (codes "RRESP"))

  no_write : (c : Channels) (resetn : ℕ) → c.b ≡ 1 → (resetn == 1 && c.aw == 1 && c.w == 1 && c.b == 0) ≡ false
  no_write c resetn e = ap (λ n. resetn == 1 && c.aw == 1 && c.w == 1 && n == 0) e ∙ ends (resetn == 1 && c.aw == 1 && c.w == 1)
    where
      ends : (t : Bool) → (t && false) ≡ false
      ends true = refl
      ends false = refl

  no_read : (t : Bool) (r : ℕ) (u : Bool) → r ≡ 1 → (t && ((r == 0) && u)) ≡ false
  no_read t r u e = ap (λ n. t && ((n == 0) && u)) e ∙ ends t
    where
      ends : (t : Bool) → (t && false) ≡ false
      ends true = refl
      ends false = refl

  stand : (x y o q : List ℕ) (k l m : AxiKept) (first : FrontEdge (axi b) k x o l) (second : FrontEdge (axi b) l y q m) → IsOn x → IsOn y
      → Stand (record { ins = pins_at (axi b) x; outs = by_name (front_outputs (axi b)) o }) (record { ins = pins_at (axi b) y; outs = by_name (front_outputs (axi b)) q })
  stand x y o q k l m first second on too = record {
    write = λ valid ready.
        let c = k.channels in
        let p = channel_pins (pins_at (axi b) x) in
        let now : c.b ≡ 1 = sym (bvalid b k x o l first on) ∙ valid in
        let w : writes p c ≡ false = no_write c p.resetn now in
        let a = read_data b first.items (found b (pins_at (axi b) x) k).access in
        let stays : (moved b p c a).b ≡ 1 = ap (λ t. if t then 1 else (if c.b == 1 && p.bready == 1 then 0 else c.b)) w ∙ ap (λ n. if c.b == 1 && n == 1 then 0 else c.b) ready ∙ kept (c.b == 1) c.b ∙ now in
        let same : (moved b p c a).bresp ≡ c.bresp = ap (λ t. if t then write_response b c.awaddr c.wstrb else c.bresp) w in
        let to = channels_are b k x o l first on in
        (bvalid b l y q m second too ∙ ap (λ (d : Channels). d.b) to ∙ stays, bresp b l y q m second too ∙ ap (λ (d : Channels). d.bresp) to ∙ same ∙ sym (bresp b k x o l first on));
    read = λ valid ready.
        let c = k.channels in
        let p = channel_pins (pins_at (axi b) x) in
        let now : c.r ≡ 1 = sym (rvalid b k x o l first on) ∙ valid in
        let w : reads p c ≡ false = no_read (p.resetn == 1 && p.arvalid == 1) c.r (not (writes p c)) now in
        let a = read_data b first.items (found b (pins_at (axi b) x) k).access in
        let stays : (moved b p c a).r ≡ 1 = ap (λ t. if t then 1 else (if c.r == 1 && p.rready == 1 then 0 else c.r)) w ∙ ap (λ n. if c.r == 1 && n == 1 then 0 else c.r) ready ∙ kept (c.r == 1) c.r ∙ now in
        let same_data : (moved b p c a).rdata ≡ c.rdata = ap (λ t. if t then a else c.rdata) w in
        let same : (moved b p c a).rresp ≡ c.rresp = ap (λ t. if t then read_response b p.araddr else c.rresp) w in
        let to = channels_are b k x o l first on in (
          rvalid b l y q m second too ∙ ap (λ (d : Channels). d.r) to ∙ stays,
          rdata b l y q m second too ∙ ap (λ (d : Channels). d.rdata) to ∙ same_data ∙ sym (rdata b k x o l first on),
          rresp b l y q m second too ∙ ap (λ (d : Channels). d.rresp) to ∙ same ∙ sym (rresp b k x o l first on),
        );
  }
    where
      kept : (t : Bool) (n : ℕ) → (if t && false then 0 else n) ≡ n
      kept true n = refl
      kept false n = refl

  stands : (vectors outs : List (List ℕ)) (k : AxiKept) → AllByRecursion IsOn vectors → FrontRun (axi b) k vectors outs
      → (i : ℕ) (m n : Moment) → slice_get (moments b vectors outs) i ≡ Some m → slice_get (moments b vectors outs) (i + 1) ≡ Some n → Stand m n
  stands [] outs k on run i m n e f = cc
  stands (x ∷ xs) [] k on run i m n e f = absurd run
  stands (x ∷ []) (o ∷ os) k on run zero m n e f = cc
  stands (x ∷ y ∷ ys) (o ∷ []) k on run zero m n e f = absurd run.2
  stands (x ∷ y ∷ ys) (o ∷ q ∷ qs) k on run zero m n e f =
      let here : Moment = record { ins = pins_at (axi b) x; outs = by_name (front_outputs (axi b)) o } in
      let there : Moment = record { ins = pins_at (axi b) y; outs = by_name (front_outputs (axi b)) q } in
      let a : here ≡ m = same_Some here m e in
      let c : there ≡ n = same_Some there n f in
      let s : Stand here there = stand x y o q k run.0 run.2.0 run.1 run.2.1 on.0 on.1.0 in
      subst (λ r. Stand r n) a (subst (λ r. Stand here r) c s)
  stands (x ∷ xs) (o ∷ os) k on run (suc i) m n e f =
      let z : suc i + 1 ≡ suc (i + 1) = omega arith in
      stands xs os run.0 on.1 run.2 i m n e (ap (slice_get (moments b (x ∷ xs) (o ∷ os))) (sym z) ∙ f)

  pub transfers : (fields : Map) (vectors outs : List (List ℕ)) → AllByRecursion IsOn vectors → FrontRun (axi b) (record { fields = fields; channels = idle }) vectors outs → AreTransfers b (moments b vectors outs)
  transfers fields vectors outs on run =
      let k : AxiKept = record { fields = fields; channels = idle } in
      let all = moments b vectors outs in
      let part = λ (past rest : List Moment) (e : all ≡ past ++ rest). begin vectors outs k idle_bits on run past rest e in
      let whole = part all [] (sym (append-nil all)) in
      record {
        few = λ past rest e.
            let h = part past rest e in
            let w : length (responses past) ≤ length (answers (write_response b) (addresses past) (strobes past)) = begins_short _ _ h.writes in
            let r : length (read_responses past) ≤ length (map (read_response b) (read_addresses past)) = begins_short _ _ h.reads in
            let s = answers_short (write_response b) (addresses past) (strobes past) in
            let s0 : length (answers (write_response b) (addresses past) (strobes past)) ≤ length (addresses past) = s.0 in
            let s1 : length (answers (write_response b) (addresses past) (strobes past)) ≤ length (strobes past) = s.1 in
            let t : length (map (read_response b) (read_addresses past)) ≤ length (read_addresses past) = map_short (read_response b) (read_addresses past) in
            (omega (arith, w, s0), omega (arith, w, s1), omega (arith, r, t));
        writes = λ i a s r at_a at_s at_r. begins_at (responses all) _ i r (write_response b a s) whole.writes at_r (answers_at (write_response b) (addresses all) (strobes all) i a s at_a at_s);
        reads = λ i a r at_a at_r. begins_at (read_responses all) _ i r (read_response b a) whole.reads at_r (map_at (read_response b) (read_addresses all) i a at_a);
        write_stands = λ i m n e f. (stands vectors outs k on run i m n e f).write;
        read_stands = λ i m n e f. (stands vectors outs k on run i m n e f).read;
      }
