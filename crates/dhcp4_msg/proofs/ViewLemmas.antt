-- The value of the last readable option of a number, found in a walk over raw options.
use Rattle.std.proofs.Common.{◌≡◌, ℕ, true, false, ◌==◌, cond, List, [], ◌∷◌, Option, Some, None, option_map, refl, sym, ap, ◌∙◌}
use Rattle.std.specs.Option.{option_or}
use Rattle.std.specs.declared.net.Ipv4Addr.{Ipv4Addr}
use Rattle.std.proofs.lemmas.Bool.{eqb-true}
use Rattle.dhcp_wire.specs.Field.{◌>>=◌}
use Rattle.dhcp_wire.specs.RawOption.{RawOptionParts, raw_option_at, raw_options, counted_after, with_later}
use Rattle.dhcp_wire.specs.Value.{address_in}
use Rattle.dhcp_wire.specs.declared.raw_option.OptionFormat.TheVariants.{DhcpV4}
use Rattle.dhcp_wire.proofs.RawOptionLemmas.{raw_options-raw_option_at}
use Rattle.dhcp4_msg.specs.declared.message_type.DhcpV4MessageType.{DhcpV4MessageType}
use Rattle.dhcp4_msg.specs.declared.option.DhcpV4Option.{DhcpV4Option}
use Rattle.dhcp4_msg.specs.declared.option.DhcpV4Option.TheVariants.{MessageType, ServerIdentifier}
use Rattle.dhcp4_msg.specs.OptionCode.{code_of, number_of}
use Rattle.dhcp4_msg.specs.Options.{message_type, read_options, reading_of, reading_under, last_of, said_by, server_identifier}
use Rattle.dhcp4_msg.specs.Value.{address_said, value_of, type_in, type_said}
use Rattle.dhcp4_msg.specs.View.{last_value, value_under}
use Rattle.dhcp4_msg.proofs.OptionsLemmas.{get-read_options}

-- What the options of a number say whose values read in one way: that which the last of them says.
module _ {X : Type 0} (value_in : List ℕ → Option X) (number : ℕ) (make : X → DhcpV4Option) (says : DhcpV4Option → Option X)
    (reads : (value : List ℕ) → value_of (code_of number) value ≡ option_map make (value_in value)) (own : (x : X) → says (make x) ≡ Some x) where
  reading_under-value : (raw : RawOptionParts) → reading_under number raw ≡ option_map make (value_under value_in number raw)
  reading_under-value raw =
      elim (number == raw.code) as (λ b. (number == raw.code) ≡ b → (let read : Option DhcpV4Option = cond b (reading_of raw) None in read) ≡ option_map make (cond b (value_in raw.value) None)) [
        | true ↦ λ is. ap (λ code. value_of (code_of code) raw.value) (sym (eqb-true _ _ is)) ∙ reads raw.value
        | false ↦ λ _. refl
      ] refl

  last_of-value : (raws : List RawOptionParts) → last_of number raws ≡ option_map make (last_value value_in number raws)
  last_of-value [] = refl
  last_of-value (raw ∷ later) =
      ap (λ found. option_or found (reading_under number raw)) (last_of-value later)
      ∙ ap (option_or (option_map make (last_value value_in number later))) (reading_under-value raw)
      ∙ mapped (last_value value_in number later) (value_under value_in number raw)
    where
      mapped : (a b : Option X) → option_or (option_map make a) (option_map make b) ≡ option_map make (option_or a b)
      mapped None b = refl
      mapped (Some x) b = refl

  said-last_value : (bytes : List ℕ) → said_by says (read_options bytes) number ≡ last_value value_in number (raw_options DhcpV4 bytes)
  said-last_value bytes =
      ap (λ found. found >>= says) (get-read_options bytes number ∙ last_of-value (raw_options DhcpV4 bytes))
      ∙ said (last_value value_in number (raw_options DhcpV4 bytes))
    where
      said : (found : Option X) → (option_map make found >>= says) ≡ found
      said None = refl
      said (Some x) = own x

-- option 53 reads as its type, and option 54 as its address
reads_type : (value : List ℕ) → value_of (code_of 53) value ≡ option_map MessageType (type_in value)
unfolding value_of code_of number_of
reads_type value = refl

reads_server : (value : List ℕ) → value_of (code_of 54) value ≡ option_map ServerIdentifier (address_in value)
unfolding value_of code_of number_of
reads_server value = refl

-- the type of a message is the last one that its options say
pub message_type-last_value : (bytes : List ℕ) → message_type (read_options bytes) ≡ last_value type_in 53 (raw_options DhcpV4 bytes)
unfolding message_type
message_type-last_value bytes = said-last_value type_in 53 MessageType type_said reads_type (λ kind. refl) bytes

-- and so is its server
pub server_identifier-last_value : (bytes : List ℕ) → server_identifier (read_options bytes) ≡ last_value address_in 54 (raw_options DhcpV4 bytes)
unfolding server_identifier
server_identifier-last_value bytes = said-last_value address_in 54 ServerIdentifier address_said reads_server (λ address. refl) bytes

-- The steps of a walk that keeps the last value so far.
module _ {X : Type 0} (value_in : List ℕ → Option X) (number : ℕ) where
  -- with one more option,
  pub value_more : (found : Option X) (bytes later : List ℕ) (raw : RawOptionParts) (all : Option X) → option_or (last_value value_in number (raw_options DhcpV4 bytes)) found ≡ all →
      raw_option_at DhcpV4 bytes ≡ Some (raw, later) →
      option_or (last_value value_in number (raw_options DhcpV4 (counted_after DhcpV4 raw.code later))) (option_or (value_under value_in number raw) found) ≡ all
  value_more found bytes later raw all so_far is =
      in_turn (last_value value_in number (raw_options DhcpV4 (counted_after DhcpV4 raw.code later))) (value_under value_in number raw) found
      ∙ sym (ap (λ raws. option_or (last_value value_in number raws) found) (raw_options-raw_option_at DhcpV4 bytes ∙ ap (with_later DhcpV4 (raw_options DhcpV4)) is)) ∙ so_far
    where
      in_turn : (a b c : Option X) → option_or a (option_or b c) ≡ option_or (option_or a b) c
      in_turn None b c = refl
      in_turn (Some x) b c = refl

  -- and at the end.
  pub value_end : (found : Option X) (bytes : List ℕ) (all : Option X) → option_or (last_value value_in number (raw_options DhcpV4 bytes)) found ≡ all →
      raw_option_at DhcpV4 bytes ≡ None → found ≡ all
  value_end found bytes all so_far is =
      sym (ap (λ raws. option_or (last_value value_in number raws) found) (raw_options-raw_option_at DhcpV4 bytes ∙ ap (with_later DhcpV4 (raw_options DhcpV4)) is)) ∙ so_far
