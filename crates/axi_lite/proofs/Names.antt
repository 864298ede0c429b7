-- The names of a block's ports and registers behind an AXI4-Lite slave port, and what they leave free.
use Rattle.std.proofs.Common.{◌≡◌, ℕ, zero, suc, ◌+◌, ◌<◌, ◌≤◌, true, false, ◌||◌, Some, List, [], ◌∷◌, ◌++◌, codes, length, map, filter, slice_get, IsTrue, refl, sym, ap, ◌∙◌, subst, arith}
use Rattle.std.specs.Prelude.{Contains}
use Rattle.std.specs.List.{list_any}
use Rattle.std.specs.Str.{bytes_eq}
use Rattle.std.proofs.lemmas.Option.{same_Some}
use Rattle.plain_lemmas.proofs.Bools.{or-neither}
use Rattle.plain_lemmas.proofs.Lists.{get-behind, get-front_of, get-map_at, list_any-append, map-map}
use Rattle.rb_base.specs.declared.ports.Dir.TheVariants.{Out}
use Rattle.rb_base.specs.declared.ports.Pin.{Pin}
use Rattle.rb_base.specs.declared.ports.Port.{Port}
use Rattle.v_design.specs.Design.{is_output, outputs_among, port_pin}
use Rattle.rtl_net.specs.Names.{Lacks, is_net_name}
use Rattle.rtl_net.specs.Net.{Net, IsWidth}
use Rattle.rtl_net.specs.Ports.{IsFree, IsNew}
use Rattle.rtl_net.proofs.Distinct.{Differ-sym, lacks_at}
use Rattle.rb_model.specs.declared.block.Block.{Block}
use Rattle.rb_model.specs.Kept.{Kept, field_kept, register_name}
use Rattle.rb_model.specs.Ports.{block_ports, input, outlets, pin}
use Rattle.rb_model.specs.References.{Each}
use Rattle.rb_model.specs.Sound.{IsSound}
use Rattle.rb_model.proofs.Apart.{Apart, Apart-filter, Name, bytes_eq-not, distinct-from}
use Rattle.rb_model.proofs.Eachs.{Each-append, Each-at, Each-right, Each-weaker}
use Rattle.rb_model.proofs.FieldNames.{pin_names}
use Rattle.rb_model.proofs.InputPins.{block_outputs}
use Rattle.axi_model.specs.Ports.{axi_ports, channel_ports}
use Rattle.axi_model.proofs.Names.{names_apart, own_names}
use Rattle.gen_core.specs.Ties.{outlet_pin}
use Rattle.gen_ports.specs.Laid.{CanLay, IsPort}
use Rattle.gen_ports.proofs.Laying.{port_names}
use Rattle.gen_ports.proofs.Portals.{block_ports_are, bus_port}
use Rattle.gen_front.proofs.Elements.{contains_at}
use Rattle.gen_front.proofs.Names.{apart_left, apart_right, behind_lacks, front_lacks, outputs_lack}
use Rattle.gen_ports.specs.Registers.{CanAdd}
use Rattle.axi_lite.specs.Tables.{own_outputs, own_registers}
use Rattle.axi_lite.proofs.Tying.{own_named}

-- The ports may be laid

given : (name : Name) (w : ℕ) → is_net_name name ≡ true → 0 < w → w ≤ 32 → (bytes_eq name (codes "PCLK") ≡ true → w ≡ 1) → IsPort (input (pin name w))
given name w n s l t = bus_port (input (pin name w)) n s l t

told : (name : Name) (w : ℕ) → is_net_name name ≡ true → 0 < w → w ≤ 32 → (bytes_eq name (codes "PCLK") ≡ true → w ≡ 1) → IsPort (record { dir = Out; name = name; width = w })
told name w n s l t = bus_port (record { dir = Out; name = name; width = w }) n s l t

bus_are : Each IsPort channel_ports
bus_are = (given (codes "PCLK") 1 refl (omega arith) (omega arith) (λ t. refl), (given (codes "PRESETn") 1 refl (omega arith) (omega arith) (λ t. refl), (given (codes "AWADDR") 32 refl (omega arith) (omega arith) (λ t. cc t), (given (codes "AWPROT") 3 refl (omega arith) (omega arith) (λ t. cc t), (given (codes "AWVALID") 1 refl (omega arith) (omega arith) (λ t. refl), (told (codes "AWREADY") 1 refl (omega arith) (omega arith) (λ t. refl), (given (codes "WDATA") 32 refl (omega arith) (omega arith) (λ t. cc t), (given (codes "WSTRB") 4 refl (omega arith) (omega arith) (λ t. cc t), (given (codes "WVALID") 1 refl (omega arith) (omega arith) (λ t. refl), (told (codes "WREADY") 1 refl (omega arith) (omega arith) (λ t. refl), (told (codes "BRESP") 2 refl (omega arith) (omega arith) (λ t. cc t), (told (codes "BVALID") 1 refl (omega arith) (omega arith) (λ t. refl), (given (codes "BREADY") 1 refl (omega arith) (omega arith) (λ t. refl), (given (codes "ARADDR") 32 refl (omega arith) (omega arith) (λ t. cc t), (given (codes "ARPROT") 3 refl (omega arith) (omega arith) (λ t. cc t), (given (codes "ARVALID") 1 refl (omega arith) (omega arith) (λ t. refl), (told (codes "ARREADY") 1 refl (omega arith) (omega arith) (λ t. refl), (told (codes "RDATA") 32 refl (omega arith) (omega arith) (λ t. cc t), (told (codes "RRESP") 2 refl (omega arith) (omega arith) (λ t. cc t), (told (codes "RVALID") 1 refl (omega arith) (omega arith) (λ t. refl), (given (codes "RREADY") 1 refl (omega arith) (omega arith) (λ t. refl), tt)))))))))))))))))))))

registers_are : Each (λ p. IsTrue (is_net_name p.name) × IsWidth p.width) own_registers
registers_are =
    let one : IsWidth 1 = (omega arith, omega arith) in
    let two : IsWidth 2 = (omega arith, omega arith) in
    let four : IsWidth 4 = (omega arith, omega arith) in
    let word : IsWidth 32 = (omega arith, omega arith) in
    ((refl, one), ((refl, word), ((refl, one), ((refl, word), ((refl, four), ((refl, one), ((refl, two), ((refl, one), ((refl, two), tt)))))))))

pub outputs_named : Each (λ p. IsTrue (is_net_name p.name)) own_outputs
outputs_named = (refl, (refl, (refl, (refl, (refl, (refl, (refl, (refl, tt))))))))

-- Names that lists lack

lacks_parts : (xs ys : List Name) (n : Name) → Lacks (xs ++ ys) n → Lacks xs n × Lacks ys n
lacks_parts xs ys n h = or-neither (list_any (bytes_eq n) xs) (list_any (bytes_eq n) ys) (sym (list_any-append (bytes_eq n) xs ys) ∙ h)

lacks_both : (xs ys : List Name) (n : Name) → Lacks xs n → Lacks ys n → Lacks (xs ++ ys) n
lacks_both xs ys n a b = list_any-append (bytes_eq n) xs ys ∙ ap (λ c. c || list_any (bytes_eq n) ys) a ∙ b

-- fewer names
lacks_fewer : (xs ys : List Name) (n : Name) → Each (λ x. (k : ℕ) × (slice_get ys k ≡ Some x)) xs → Lacks ys n → Lacks xs n
lacks_fewer [] ys n h l = refl
lacks_fewer (x ∷ xs) ys n h l = ap (λ c. c || list_any (bytes_eq n) xs) (lacks_at ys h.0.0 x n h.0.1 l) ∙ lacks_fewer xs ys n h.1 l

-- the place of each among all registers of the port
in_own : Each (λ p. (k : ℕ) × (slice_get own_names k ≡ Some p.name)) own_registers
in_own = ((0, refl), ((1, refl), ((2, refl), ((3, refl), ((4, refl), ((5, refl), ((6, refl), ((7, refl), ((9, refl), tt)))))))))

names_in_own : Each (λ n. (k : ℕ) × (slice_get own_names k ≡ Some n)) (pin_names own_registers)
names_in_own = ((0, refl), ((1, refl), ((2, refl), ((3, refl), ((4, refl), ((5, refl), ((6, refl), ((7, refl), ((9, refl), tt)))))))))

-- a pin's name is none of those behind it
differs : (xs ys : List Pin) (k : ℕ) (p : Pin) → Apart (pin_names (xs ++ ys)) → slice_get xs k ≡ Some p → Each (λ q. bytes_eq p.name q.name ≡ false) ys
differs [] ys k p a e = cc
differs (x ∷ xs) ys zero p a e = subst (λ r. Each (λ q. bytes_eq r.name q.name ≡ false) ys) (same_Some x p e) (from ys (right xs ys a.0))
  where
    from : (zs : List Pin) → Each (λ m. m ≡ x.name → ⊥) (pin_names zs) → Each (λ q. bytes_eq x.name q.name ≡ false) zs
    from [] h = tt
    from (z ∷ zs) h = (bytes_eq-not x.name z.name (λ i. h.0 (sym i)), from zs h.1)

    right : (us vs : List Pin) → Each (λ m. m ≡ x.name → ⊥) (pin_names (us ++ vs)) → Each (λ m. m ≡ x.name → ⊥) (pin_names vs)
    right [] vs h = h
    right (u ∷ us) vs h = right us vs h.1
differs (x ∷ xs) ys (suc k) p a e = differs xs ys k p a.1 e

module _ (b : Block) (sound : IsSound b) where
  abbrev names : List Name
  names = port_names (axi_ports b)

  abbrev fields : List Name
  fields = map (register_name b) (field_kept b)

  apart : Apart (names ++ (fields ++ own_names))
  apart = names_apart b sound

  pub ports_apart : Apart names
  ports_apart = apart_left names (fields ++ own_names) apart

  pub can_lay : CanLay (axi_ports b)
  can_lay = record {
    first = (_, refl);
    each = Each-append IsPort channel_ports (block_ports b) bus_are (block_ports_are b sound);
    apart = distinct-from names ports_apart;
  }

  own_lack : (n : Name) (k : ℕ) → slice_get own_names k ≡ Some n → Lacks names n
  own_lack n k e = behind_lacks names (fields ++ own_names) (length fields + k) n apart (get-behind fields own_names k ∙ e)

  field_at : (q : Kept) (c : Contains (field_kept b) q) → slice_get fields c.0 ≡ Some (register_name b q)
  field_at q c = get-map_at (register_name b) (field_kept b) c.0 q (contains_at (field_kept b) q c)

  pub field_lack : (q : Kept) → Contains (field_kept b) q → Lacks names (register_name b q)
  field_lack q c = behind_lacks names (fields ++ own_names) c.0 (register_name b q) apart (get-front_of fields own_names (register_name b q) c.0 (field_at q c))

  pub field_others : (q : Kept) → Contains (field_kept b) q → Lacks (pin_names own_registers) (register_name b q)
  field_others q c = lacks_fewer (pin_names own_registers) own_names (register_name b q) names_in_own (front_lacks fields own_names c.0 (register_name b q) (apart_right names (fields ++ own_names) apart) (field_at q c))

  pub can_add : (net : Net) → ((name : Name) → Lacks names name → IsNew net name) → CanAdd net own_registers
  can_add net new = record {
    each = λ k p e.
        let f = Each-at (λ (q : Pin). IsTrue (is_net_name q.name) × IsWidth q.width) own_registers k p registers_are e in
        let place = Each-at (λ (q : Pin). (j : ℕ) × (slice_get own_names j ≡ Some q.name)) own_registers k p in_own e in
        (f.0, f.1, new p.name (own_lack p.name place.0 place.1));
    apart = own_named;
  }

  -- the register of the read data
  pub data_lacks : Lacks names (codes "axi$rdata")
  data_lacks = own_lack (codes "axi$rdata") 8 refl

  pub data_others : Lacks (pin_names own_registers ++ fields) (codes "axi$rdata")
  data_others = lacks_both (pin_names own_registers) fields (codes "axi$rdata") refl (behind_lacks fields own_names 8 (codes "axi$rdata") (apart_right names (fields ++ own_names) apart) refl)

  -- Outputs

  pub outputs_are : outputs_among (axi_ports b) ≡ own_outputs ++ map outlet_pin (outlets b)
  outputs_are = ap (λ xs. own_outputs ++ xs) (block_outputs b)

  all_lack : Each (λ o. Lacks (fields ++ own_names) o.name) (own_outputs ++ map outlet_pin (outlets b))
  all_lack = subst (Each (λ (o : Pin). Lacks (fields ++ own_names) o.name)) outputs_are (outputs_lack (axi_ports b) (fields ++ own_names) apart)

  outlets_lack : Each (λ o. Lacks (fields ++ own_names) o.name) (map outlet_pin (outlets b))
  outlets_lack = Each-right (λ (o : Pin). Lacks (fields ++ own_names) o.name) own_outputs (map outlet_pin (outlets b)) all_lack

  pub outlet_lacks : Each (λ o. Lacks (pin_names own_registers) o.name) (map outlet_pin (outlets b))
  outlet_lacks = Each-weaker (λ (o : Pin). Lacks (fields ++ own_names) o.name) (λ (o : Pin). Lacks (pin_names own_registers) o.name)
      (λ o h. lacks_fewer (pin_names own_registers) own_names o.name names_in_own (lacks_parts fields own_names o.name h).1) (map outlet_pin (outlets b)) outlets_lack

  pub data_differs : Each (λ p. bytes_eq (codes "axi$rdata") p.name ≡ false) (map outlet_pin (outlets b))
  data_differs = Each-weaker (λ (o : Pin). Lacks (fields ++ own_names) o.name) (λ (o : Pin). bytes_eq (codes "axi$rdata") o.name ≡ false)
      (λ o h. Differ-sym o.name (codes "axi$rdata") (lacks_at own_names 8 (codes "axi$rdata") o.name refl (lacks_parts fields own_names o.name h).1)) (map outlet_pin (outlets b)) outlets_lack

  -- in the order in which the registers are added
  pub output_lacks : (k : ℕ) (p : Pin) → slice_get own_outputs k ≡ Some p → Lacks (pin_names own_registers ++ fields ++ codes "axi$rdata" ∷ []) p.name
  output_lacks k p e =
      let both = lacks_parts fields own_names p.name (Each-at (λ (o : Pin). Lacks (fields ++ own_names) o.name) (own_outputs ++ map outlet_pin (outlets b)) k p all_lack (get-front_of own_outputs (map outlet_pin (outlets b)) p k e)) in
      lacks_both (pin_names own_registers ++ fields) (codes "axi$rdata" ∷ []) p.name
      (lacks_both (pin_names own_registers) fields p.name (lacks_fewer (pin_names own_registers) own_names p.name names_in_own both.1) both.0)
      (lacks_fewer (codes "axi$rdata" ∷ []) own_names p.name ((8, refl), tt) both.1)

  pub outputs_differ : (k : ℕ) (p : Pin) → slice_get own_outputs k ≡ Some p → Each (λ q. bytes_eq p.name q.name ≡ false) (map outlet_pin (outlets b))
  outputs_differ k p e =
      let shown : Apart (map (λ (r : Port). r.name) (filter is_output (axi_ports b))) = Apart-filter (λ (r : Port). r.name) is_output (axi_ports b) ports_apart in
      let pins : Apart (pin_names (outputs_among (axi_ports b))) = subst Apart (sym (map-map (λ (q : Pin). q.name) port_pin (filter is_output (axi_ports b)))) shown in
      differs own_outputs (map outlet_pin (outlets b)) k p (subst (λ ps. Apart (pin_names ps)) outputs_are pins) e

  pub output_free : (net : Net) → Each (λ p. IsFree net p.name p.width) (outputs_among (axi_ports b)) → (k : ℕ) (p : Pin) → slice_get own_outputs k ≡ Some p → IsFree net p.name p.width
  output_free net free k p e =
      Each-at (λ (q : Pin). IsFree net q.name q.width) (own_outputs ++ map outlet_pin (outlets b)) k p (subst (Each (λ (q : Pin). IsFree net q.name q.width)) outputs_are free)
      (get-front_of own_outputs (map outlet_pin (outlets b)) p k e)

  pub outlets_free : (net : Net) → Each (λ p. IsFree net p.name p.width) (outputs_among (axi_ports b)) → Each (λ p. IsFree net p.name p.width) (map outlet_pin (outlets b))
  outlets_free net free = Each-right (λ (q : Pin). IsFree net q.name q.width) own_outputs (map outlet_pin (outlets b)) (subst (Each (λ (q : Pin). IsFree net q.name q.width)) outputs_are free)
