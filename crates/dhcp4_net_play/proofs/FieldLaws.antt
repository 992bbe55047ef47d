-- The lines of clients and of events are read in one way alone.
use Rattle.std.proofs.Common.{◌≡◌, ◌≢◌, ◌⊎◌, inl, inr, ℕ, ◌<◌, ◌≤◌, Bool, true, false, cond, List, [], ◌∷◌, ◌++◌, length, Some, None, refl, sym, ap, ◌∙◌, append_assoc, length-append, arith, codes}
use Rattle.std.specs.Prelude.{OnOk, Result, Ok, Err}
use Rattle.std.specs.Fmt.{decimal}
use Rattle.std.specs.Str.{bytes_eq}
use Rattle.std.proofs.lemmas.Slice.Eq.{bytes_eq-Decides}
use Rattle.hex.specs.Hex.{encode_lower}
use Rattle.dhcp_wire.specs.Field.{Read, ◌>>=◌}
use Rattle.dhcp_stream.specs.HexText.{IsMac}
use Rattle.dhcp_stream.specs.Line.{line}
use Rattle.dhcp_stream.specs.TextReader.{Takes, after_tag, both, field_at, in_field, mac_in, made_of, tag_at}
use Rattle.dhcp_stream.specs.declared.text_reader.ReadError.{ReadError}
use Rattle.dhcp_stream.proofs.CodecLaws.{HasNo-test, IsCodec, IsCodec-after_tag, IsCodec-as, IsCodec-both, IsCodec-in_field, IsCodec-made_of, bind_some, field_at-sound, map_some, moved, same_read, tag_at-sound}
use Rattle.dhcp_stream.proofs.ValueLemmas.{IsValue-mac, IsValue-number}
use Rattle.dhcp_script.specs.FieldReader.{flag_in, if_tag, u32_at}
use Rattle.dhcp_script.proofs.ChoiceLaws.{IsCodec-choice}
use Rattle.dhcp_script.proofs.Clear.{HasNo-decimal, HasNo-encode_lower, HasNo-flag}
use Rattle.dhcp_script.proofs.FieldLemmas.{IsValue-flag}
use Rattle.dhcp_script.proofs.ValueLaws.{u32_field}
use Rattle.dhcp4_lease.specs.declared.message_forms.DhcpV4MessageForms.{DhcpV4MessageForms}
use Rattle.dhcp4_net.specs.declared.script.NetAct.{NetAct}
use Rattle.dhcp4_net.specs.declared.script.NetAct.TheVariants.{Nothing, Deliver, Release, CleanUp}
use Rattle.dhcp4_net.specs.declared.script.NetClient.{NetClient}
use Rattle.dhcp4_net.specs.declared.script.NetEvent.{NetEvent}
use Rattle.dhcp4_net.specs.declared.script.NetWho.{NetWho}
use Rattle.dhcp4_net.specs.declared.script.NetWho.TheVariants.{Client, Server}
use Rattle.dhcp4_net_play.specs.NetScript.{IsAct, IsClient, IsEvent, IsWho, act_text, client_text, event_text, who_text}
use Rattle.dhcp4_net_play.specs.Reader.{act_at, call_in, client_at, client_event_at, client_of, event_at, event_of, u64_at, who_at, who_of}
use Rattle.dhcp4_net_play.proofs.ClientLaws.{IsValue-words_and_forms, no_line_feed}

-- ---- fields

pub mac_field : IsCodec (λ mac. encode_lower mac ++ 32 ∷ []) IsMac (in_field mac_in 32)
mac_field = IsCodec-in_field IsValue-mac 32 (λ mac fits. HasNo-encode_lower 32 mac fits.1 (omega arith))

pub u64_field : (end : ℕ) → end < 48 → IsCodec (λ n. decimal n ++ end ∷ []) (λ n. n ≤ 18446744073709551615) (u64_at end)
u64_field end below = IsCodec-in_field (IsValue-number 18446744073709551615 (omega arith)) end (λ n small. HasNo-decimal end n (omega arith) below)

-- what is read leaves no more of a text than there was
pub no_longer : {A : Type 0} {print : A → List ℕ} {Fits : A → Type 0} {read : List ℕ → Read A} → IsCodec print Fits read
    → (result : Result A ReadError) (old new : List ℕ) → Takes result new (read old) → OnOk result (length new ≤ length old)
no_longer {print = print} is (Ok x) old new h =
    let whole = ap length (is.sound old x new h).0 in
    let long = length-append (print x) new in
    omega arith
no_longer is (Err e) old new h = tt

-- ---- a client

client_parts : NetClient → List ℕ × (List ℕ × DhcpV4MessageForms)
client_parts client = (client.mac, (client.words, client.message_forms))

pub IsCodec-client : IsCodec (λ client. line (client_text client)) IsClient client_at
unfolding client_at client_parts
IsCodec-client =
    IsCodec-as (IsCodec-made_of (IsCodec-both mac_field (IsCodec-in_field IsValue-words_and_forms 10 (λ parts fits. no_line_feed parts))) client_of client_parts (λ x. refl) (λ y. refl))
    (λ client. simp append_assoc)
    (λ client fits. record { mac = fits.0; words = fits.1 })
    (λ client fits. (fits.mac, fits.words))

-- ---- what comes to a client

-- the word that is read is the one that is printed
call_in-sound : (field : List ℕ) (act : NetAct) → call_in field ≡ Some act → (act_text act ≡ field) × IsAct act
call_in-sound field act h = by_tests act (bytes_eq field (codes "none")) (bytes_eq field (codes "release")) (bytes_eq field (codes "cleanup")) refl refl refl h
  where
    is : (word : List ℕ) → bytes_eq field word ≡ true → word ≡ field
    is word e = sym ((bytes_eq-Decides field word).0 e)

    by_tests : (act : NetAct) (a b c : Bool) → bytes_eq field (codes "none") ≡ a → bytes_eq field (codes "release") ≡ b → bytes_eq field (codes "cleanup") ≡ c
        → cond a (Some Nothing) (cond b (Some Release) (cond c (Some CleanUp) None)) ≡ Some act → (act_text act ≡ field) × IsAct act
    by_tests Nothing true b c ea eb ec h = (is (codes "none") ea, tt)
    by_tests Release true b c ea eb ec h = cc h
    by_tests CleanUp true b c ea eb ec h = cc h
    by_tests (Deliver packet) true b c ea eb ec h = cc h
    by_tests Release false true c ea eb ec h = (is (codes "release") eb, tt)
    by_tests Nothing false true c ea eb ec h = cc h
    by_tests CleanUp false true c ea eb ec h = cc h
    by_tests (Deliver packet) false true c ea eb ec h = cc h
    by_tests CleanUp false false true ea eb ec h = (is (codes "cleanup") ec, tt)
    by_tests Nothing false false true ea eb ec h = cc h
    by_tests Release false false true ea eb ec h = cc h
    by_tests (Deliver packet) false false true ea eb ec h = cc h
    by_tests act false false false ea eb ec h = cc h

abbrev act_line : NetAct → List ℕ
act_line act = act_text act ++ 10 ∷ []

act_complete : (act : NetAct) (rest : List ℕ) → IsAct act → act_at (act_line act ++ rest) ≡ Some (act, rest)
unfolding act_at tag_at field_at
act_complete Nothing rest fits = refl
act_complete Release rest fits = refl
act_complete CleanUp rest fits = refl
act_complete (Deliver packet) rest fits = rw ((u32_field 10 (omega arith)).complete packet rest (omega (arith, fits))) refl

act_sound : (text : List ℕ) (act : NetAct) (rest : List ℕ) → act_at text ≡ Some (act, rest) → (text ≡ act_line act ++ rest) × IsAct act
unfolding act_at
act_sound text act rest h = by_tag (tag_at (codes "deliver ") text) refl h
  where
    Is : NetAct → List ℕ → Type 0
    Is act rest = (text ≡ act_line act ++ rest) × IsAct act

    by_tag : (tag : Read (Unit {0})) → tag_at (codes "deliver ") text ≡ tag → if_tag tag (made_of Deliver (u32_at 10)) (in_field call_in 10 text) ≡ Some (act, rest) → Is act rest
    by_tag (Some found) is h =
        let step = map_some (λ (read : ℕ × List ℕ). (Deliver read.0, read.1)) (u32_at 10 found.1) (act, rest) h in
        let one = (u32_field 10 (omega arith)).sound found.1 step.0.0 step.0.1 step.1 in
        let made : Deliver step.0.0 ≡ act = ap (λ (p : NetAct × List ℕ). p.0) step.2 in
        let more : step.0.1 ≡ rest = ap (λ (p : NetAct × List ℕ). p.1) step.2 in
        moved Is (Deliver step.0.0) act step.0.1 rest made more (
          tag_at-sound (codes "deliver ") text found.1 is ∙ ap (λ xs. codes "deliver " ++ xs) one.0 ∙ sym (append_assoc (codes "deliver ") (decimal step.0.0 ++ 10 ∷ []) step.0.1)
              ∙ ap (λ xs. xs ++ step.0.1) (sym (append_assoc (codes "deliver ") (decimal step.0.0) (10 ∷ []))),
          omega (arith, one.1),
        )
    by_tag None is h =
        let cut = bind_some (field_at 10 text) (λ field. call_in field.0 >>= λ x. Some (x, field.1)) (act, rest) h in
        let step = bind_some (call_in cut.0.0) (λ x. Some (x, cut.0.1)) (act, rest) cut.2 in
        let parts = same_read step.0 act cut.0.1 rest step.2 in
        let split = field_at-sound 10 text cut.0.0 cut.0.1 cut.1 in
        let spelled = call_in-sound cut.0.0 step.0 step.1 in
        moved Is step.0 act cut.0.1 rest parts.0 parts.1
        (split.0 ∙ ap (λ field. field ++ 10 ∷ cut.0.1) (sym spelled.0) ∙ sym (append_assoc (act_text step.0) (10 ∷ []) cut.0.1), spelled.1)

IsCodec-act : IsCodec act_line IsAct act_at
IsCodec-act = record { sound = act_sound; complete = act_complete }

-- ---- whom an event is of

abbrev who_line : NetWho → List ℕ
who_line who = who_text who ++ 10 ∷ []

-- the server
codec_server_event : IsCodec (λ packet. who_line (Server packet)) (λ packet. IsWho (Server packet)) (after_tag (codes "server deliver ") (u32_at 10))
codec_server_event =
    IsCodec-as (IsCodec-after_tag (codes "server deliver ") (u32_field 10 (omega arith)))
    (λ packet. sym (append_assoc (codes "server deliver ") (decimal packet) (10 ∷ [])))
    (λ packet fits. omega (arith, fits))
    (λ packet fits. omega (arith, fits))

-- a client
codec_client_event : IsCodec (λ parts. who_line (who_of parts)) (λ parts. IsWho (who_of parts))
    (after_tag (codes "client ") (both (u32_at 32) (both (in_field (flag_in (codes "refuse") (codes "ok")) 32) act_at)))
codec_client_event =
    let other : codes "ok" ≢ codes "refuse" = λ e. let same = ap length e in omega arith in
    let refuse = IsCodec-in_field (IsValue-flag (codes "refuse") (codes "ok") other) 32 (λ flag fits. HasNo-flag 32 (codes "refuse") (codes "ok") (HasNo-test 32 (codes "refuse") refl) (HasNo-test 32 (codes "ok") refl) flag) in
    IsCodec-as (IsCodec-after_tag (codes "client ") (IsCodec-both (u32_field 32 (omega arith)) (IsCodec-both refuse IsCodec-act)))
    (λ parts. simp append_assoc)
    (λ parts fits. (omega (arith, fits.0), fits.1.1))
    (λ parts fits. (omega (arith, fits.0), (tt, fits.1)))

-- the line of a client's event does not begin as one of the server
apart : (parts : ℕ × (Bool × NetAct)) (rest : List ℕ) → tag_at (codes "server deliver ") (who_line (who_of parts) ++ rest) ≡ None
unfolding tag_at
apart parts rest = refl

either : (who : NetWho) → ((packet : ℕ) × (Server packet ≡ who)) ⊎ ((parts : ℕ × (Bool × NetAct)) × (who_of parts ≡ who))
either (Server packet) = inl (packet, refl)
either (Client client refuse act) = inr ((client, (refuse, act)), refl)

IsCodec-who : IsCodec who_line IsWho who_at
unfolding who_at client_event_at
IsCodec-who = IsCodec-choice who_line IsWho (tag_at (codes "server deliver ")) (u32_at 10)
    (after_tag (codes "client ") (both (u32_at 32) (both (in_field (flag_in (codes "refuse") (codes "ok")) 32) act_at))) Server who_of
    codec_server_event codec_client_event apart either

-- ---- an event

event_parts : NetEvent → ℕ × NetWho
event_parts event = (event.moment, event.who)

pub IsCodec-event : IsCodec (λ event. line (event_text event)) IsEvent event_at
unfolding event_at event_parts
IsCodec-event =
    IsCodec-as (IsCodec-made_of (IsCodec-both (u64_field 32 (omega arith)) IsCodec-who) event_of event_parts (λ x. refl) (λ y. refl))
    (λ event. simp append_assoc)
    (λ event fits. record { moment = omega (arith, fits.0); who = fits.1 })
    (λ event fits. (omega (arith, fits.moment), fits.who))
