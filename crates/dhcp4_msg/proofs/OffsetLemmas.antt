-- The fields of a message that reads, by their offsets.
use Rattle.std.proofs.Common.{◌≡◌, ℕ, ◌+◌, ◌≤◌, Bool, true, false, ◌==◌, cond, List, length, take, drop, Option, Some, None, option_map, refl, sym, ap, subst, ◌∙◌, arith, length-drop, length-append}
use Rattle.std.proofs.lemmas.List.{drop-drop}
use Rattle.std.specs.Int.{Width, w8, w16, w32, byte_len}
use Rattle.std.proofs.lemmas.Bool.{eqb-true}
use Rattle.std.proofs.lemmas.List.{take_at, drop_at}
use Rattle.std.proofs.lemmas.Option.{none-some, same_Some, option_and_then_some}
use Rattle.dhcp_wire.specs.Field.{Read, bytes_at, number_at, address_at, before_zero, text_of, terminated_text_at}
use Rattle.dhcp_wire.specs.Value.{number_in, address_in, text_in}
use Rattle.dhcp_wire.proofs.FieldLaws.{bytes_at_cut}
use Rattle.dhcp_wire.proofs.FieldLemmas.{mapped}
use Rattle.dhcp4_msg.specs.declared.message.DhcpV4Message.{DhcpV4Message}
use Rattle.dhcp4_msg.specs.Message.{read_message, magic_cookie, IsAtOffsets}
use Rattle.dhcp4_msg.specs.Options.{read_options}

-- a read takes n bytes from the front
abbrev Takes : {A : Type 0} → ℕ → (List ℕ → Read A) → Type 0
Takes {A = A} n read = (bytes rest : List ℕ) (x : A) → read bytes ≡ Some (x, rest) → (rest ≡ drop n bytes) × (n ≤ length bytes)

Takes-bytes_at : (n : ℕ) → Takes n (bytes_at n)
Takes-bytes_at n bytes rest front is =
    let cut = bytes_at_cut n bytes front rest is in
    (sym (ap (drop n) cut.1 ∙ drop_at front rest n cut.0), omega (arith, cut.0, ap (λ bytes. length bytes) cut.1, length-append front rest))

Takes-number_at : (width : Width) → Takes (byte_len width) (number_at width)
Takes-number_at width bytes rest n is =
    let found = mapped _ (bytes_at (byte_len width) bytes) _ is in
    subst (λ rest. (rest ≡ drop (byte_len width) bytes) × (byte_len width ≤ length bytes)) (ap (λ pair. pair.1) found.2)
    (Takes-bytes_at (byte_len width) bytes found.0.1 found.0.0 found.1)

Takes-address_at : Takes 4 address_at
Takes-address_at bytes rest address is =
    let found = mapped _ (bytes_at 4 bytes) _ is in
    subst (λ rest. (rest ≡ drop 4 bytes) × (4 ≤ length bytes)) (ap (λ pair. pair.1) found.2) (Takes-bytes_at 4 bytes found.0.1 found.0.0 found.1)

-- the bytes of a field
front_of : (n : ℕ) (bytes front rest : List ℕ) → bytes_at n bytes ≡ Some (front, rest) → take n bytes ≡ front
front_of n bytes front rest is = let cut = bytes_at_cut n bytes front rest is in ap (take n) cut.1 ∙ take_at front rest n cut.0

-- the text of a field, and the bytes after it
text_of_field : (n : ℕ) (bytes rest text : List ℕ) → terminated_text_at n bytes ≡ Some (text, rest) → (text_in (take n bytes) ≡ Some text) × (rest ≡ drop n bytes) × (n ≤ length bytes)
text_of_field n bytes rest text is =
    option_and_then_some _ (bytes_at n bytes) _ is (λ field at_field then_text.
    option_and_then_some _ (text_of (before_zero field.0)) _ then_text (λ kept at_kept made.
    let same = same_Some _ _ made in
    let takes = Takes-bytes_at n bytes field.1 field.0 at_field in (
      ap text_in (front_of n bytes field.0 field.1 at_field) ∙ at_kept ∙ ap (λ pair. Some pair.0) same,
      sym (ap (λ pair. pair.1) same) ∙ takes.0,
      takes.1,
    )))

-- bytes from an offset on, which is not past the end
record At (bytes : List ℕ) (offset : ℕ) (left : List ℕ) : Type 0 where
  here : left ≡ drop offset bytes
  within : offset ≤ length bytes

from_start : (bytes : List ℕ) → At bytes 0 bytes
from_start bytes = record { here = refl; within = omega arith }

-- the place after some bytes
further : (bytes : List ℕ) (offset n : ℕ) (left rest : List ℕ) → At bytes offset left → (rest ≡ drop n left) × (n ≤ length left) → At bytes (offset + n) rest
further bytes offset n left rest at took = record {
  here = took.0 ∙ ap (drop n) at.here ∙ drop-drop n offset bytes;
  within = omega (arith, at.within, took.1, ap (λ left. length left) at.here, length-drop offset bytes);
}

-- what the front of the bytes at an offset reads as
value_at : {A : Type 0} (value : List ℕ → Option A) (bytes left : List ℕ) (offset : ℕ) (x : A) → At bytes offset left → value left ≡ Some x → value (drop offset bytes) ≡ Some x
value_at value bytes left offset x at is = ap value (sym at.here) ∙ is

-- the value of a read
abbrev front : {A : Type 0} → Read A → Option A
front read = option_map (λ found. found.0) read

-- what is made where a test passes
made_of : (b : Bool) (made message : DhcpV4Message) → cond b (Some made) None ≡ Some message → (b ≡ true) × (made ≡ message)
made_of true made message is = (refl, same_Some _ _ is)
made_of false made message is = absurd (none-some _ is)

-- a message that reads has its fields at their offsets
pub IsAtOffsets-read_message : (bytes : List ℕ) (message : DhcpV4Message) → read_message bytes ≡ Some message → IsAtOffsets bytes message
unfolding read_message
IsAtOffsets-read_message bytes message is =
    option_and_then_some _ (number_at w8 bytes) _ is (λ op at_op then_1.
    option_and_then_some _ (number_at w8 op.1) _ then_1 (λ htype at_htype then_2.
    option_and_then_some _ (number_at w8 htype.1) _ then_2 (λ hlen at_hlen then_3.
    option_and_then_some _ (number_at w8 hlen.1) _ then_3 (λ hops at_hops then_4.
    option_and_then_some _ (number_at w32 hops.1) _ then_4 (λ xid at_xid then_5.
    option_and_then_some _ (number_at w16 xid.1) _ then_5 (λ secs at_secs then_6.
    option_and_then_some _ (number_at w16 secs.1) _ then_6 (λ flags at_flags then_7.
    option_and_then_some _ (address_at flags.1) _ then_7 (λ ciaddr at_ciaddr then_8.
    option_and_then_some _ (address_at ciaddr.1) _ then_8 (λ yiaddr at_yiaddr then_9.
    option_and_then_some _ (address_at yiaddr.1) _ then_9 (λ siaddr at_siaddr then_10.
    option_and_then_some _ (address_at siaddr.1) _ then_10 (λ giaddr at_giaddr then_11.
    option_and_then_some _ (bytes_at 16 giaddr.1) _ then_11 (λ chaddr at_chaddr then_12.
    option_and_then_some _ (terminated_text_at 64 chaddr.1) _ then_12 (λ sname at_sname then_13.
    option_and_then_some _ (terminated_text_at 128 sname.1) _ then_13 (λ file at_file then_14.
    option_and_then_some _ (number_at w32 file.1) _ then_14 (λ cookie at_cookie made.
    let p0 = from_start bytes in
    let p1 = further bytes 0 1 bytes op.1 p0 (Takes-number_at w8 bytes op.1 op.0 at_op) in
    let p2 = further bytes 1 1 op.1 htype.1 p1 (Takes-number_at w8 op.1 htype.1 htype.0 at_htype) in
    let p3 = further bytes 2 1 htype.1 hlen.1 p2 (Takes-number_at w8 htype.1 hlen.1 hlen.0 at_hlen) in
    let p4 = further bytes 3 1 hlen.1 hops.1 p3 (Takes-number_at w8 hlen.1 hops.1 hops.0 at_hops) in
    let p8 = further bytes 4 4 hops.1 xid.1 p4 (Takes-number_at w32 hops.1 xid.1 xid.0 at_xid) in
    let p10 = further bytes 8 2 xid.1 secs.1 p8 (Takes-number_at w16 xid.1 secs.1 secs.0 at_secs) in
    let p12 = further bytes 10 2 secs.1 flags.1 p10 (Takes-number_at w16 secs.1 flags.1 flags.0 at_flags) in
    let p16 = further bytes 12 4 flags.1 ciaddr.1 p12 (Takes-address_at flags.1 ciaddr.1 ciaddr.0 at_ciaddr) in
    let p20 = further bytes 16 4 ciaddr.1 yiaddr.1 p16 (Takes-address_at ciaddr.1 yiaddr.1 yiaddr.0 at_yiaddr) in
    let p24 = further bytes 20 4 yiaddr.1 siaddr.1 p20 (Takes-address_at yiaddr.1 siaddr.1 siaddr.0 at_siaddr) in
    let p28 = further bytes 24 4 siaddr.1 giaddr.1 p24 (Takes-address_at siaddr.1 giaddr.1 giaddr.0 at_giaddr) in
    let p44 = further bytes 28 16 giaddr.1 chaddr.1 p28 (Takes-bytes_at 16 giaddr.1 chaddr.1 chaddr.0 at_chaddr) in
    let sname_field = text_of_field 64 chaddr.1 sname.1 sname.0 at_sname in
    let p108 = further bytes 44 64 chaddr.1 sname.1 p44 (sname_field.1, sname_field.2) in
    let file_field = text_of_field 128 sname.1 file.1 file.0 at_file in
    let p236 = further bytes 108 128 sname.1 file.1 p108 (file_field.1, file_field.2) in
    let p240 = further bytes 236 4 file.1 cookie.1 p236 (Takes-number_at w32 file.1 cookie.1 cookie.0 at_cookie) in
    let done = made_of (cookie.0 == magic_cookie) _ message made in
    subst (IsAtOffsets bytes) done.1 (record {
      long = p240.within;
      cookie = value_at (number_in w32) bytes file.1 236 magic_cookie p236 (ap front at_cookie ∙ ap Some (eqb-true _ _ done.0));
      op = ap front at_op;
      htype = value_at (number_in w8) bytes op.1 1 htype.0 p1 (ap front at_htype);
      hlen = value_at (number_in w8) bytes htype.1 2 hlen.0 p2 (ap front at_hlen);
      hops = value_at (number_in w8) bytes hlen.1 3 hops.0 p3 (ap front at_hops);
      xid = value_at (number_in w32) bytes hops.1 4 xid.0 p4 (ap front at_xid);
      secs = value_at (number_in w16) bytes xid.1 8 secs.0 p8 (ap front at_secs);
      flags = value_at (number_in w16) bytes secs.1 10 flags.0 p10 (ap front at_flags);
      ciaddr = value_at address_in bytes flags.1 12 ciaddr.0 p12 (ap front at_ciaddr);
      yiaddr = value_at address_in bytes ciaddr.1 16 yiaddr.0 p16 (ap front at_yiaddr);
      siaddr = value_at address_in bytes yiaddr.1 20 siaddr.0 p20 (ap front at_siaddr);
      giaddr = value_at address_in bytes siaddr.1 24 giaddr.0 p24 (ap front at_giaddr);
      chaddr = ap (take 16) (sym p28.here) ∙ front_of 16 giaddr.1 chaddr.0 chaddr.1 at_chaddr;
      sname = ap (λ left. text_in (take 64 left)) (sym p44.here) ∙ sname_field.0;
      file = ap (λ left. text_in (take 128 left)) (sym p108.here) ∙ file_field.0;
      options = ap read_options (sym p240.here);
    }))))))))))))))))
