-- What contracts see of the identifier of a link-layer address, RFC 8415 section 11.4.
use Rattle.std.specs.Prelude.{ℕ, List}

-- its hardware type, and the bytes of its address
pub record LinkLayerAddressParts : Type 0 where
  pub hardware_type : ℕ
  pub link_layer_address : List ℕ
