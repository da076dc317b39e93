-- Examples: the leads of a few entities, two digits an octet.
use Rattle.std.proofs.Common.{◌≡◌, ◌<◌, [], ◌∷◌, refl, arith}
use Rattle.std.specs.Prelude.{codes}
use Rattle.base.specs.Entity.{order_of, stock_of, account_of}
use Rattle.base.specs.Parts.Lead.{lead_of}

-- `a` for an account, `o` for an order and `s` for a stock, then the key, and zeros behind it
short_keys_stand_whole : (lead_of (account_of (codes "ann")) ≡ 0x61_61_6e_6e_00_00_00_00)
    × (lead_of (order_of (codes "o20000")) ≡ 0x6f_6f_32_30_30_30_30_00)
    × (lead_of (stock_of (codes "bolt")) ≡ 0x73_62_6f_6c_74_00_00_00)
    × (lead_of (stock_of (195 ∷ 169 ∷ [])) ≡ 0x73_c3_a9_00_00_00_00_00)
unfolding lead_of
short_keys_stand_whole = (refl, refl, refl, refl)

-- of a key no more than seven octets: two orders may have one lead
long_keys_are_cut : (lead_of (order_of (codes "abcdefg")) ≡ 0x6f_61_62_63_64_65_66_67)
    × (lead_of (order_of (codes "abcdefgh")) ≡ 0x6f_61_62_63_64_65_66_67)
    × (lead_of (order_of (codes "abcdefgi")) ≡ 0x6f_61_62_63_64_65_66_67)
unfolding lead_of
long_keys_are_cut = (refl, refl, refl)

-- they stand in the order of the texts
leads_are_in_order : (lead_of (account_of (codes "z")) < lead_of (order_of (codes "a")))
    × (lead_of (order_of (codes "z")) < lead_of (stock_of (codes "a")))
    × (lead_of (order_of (codes "o1")) < lead_of (order_of (codes "o10")))
    × (lead_of (order_of (codes "o10")) < lead_of (order_of (codes "o2")))
unfolding lead_of
leads_are_in_order = (omega arith, omega arith, omega arith, omega arith)
