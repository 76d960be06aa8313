-- The definitions that a map, a defect and a place compute with: `unfolding computing_maps` opens them all.
-- Assumes nothing.
use Rattle.laws.specs.Pick.{pick}
use Rattle.parts.specs.Setup.{within_limits, all_words, sector_number, sector_start}
use Rattle.defects.specs.Offence.{first_of, tests_over}
use Rattle.defects.specs.Crc.{crc_of, remainder_after}
use Rattle.defects.specs.Defect.{number_at, defect_octets, is_blank, address}
use Rattle.defects.specs.Field.{front_of, defects_from}
use Rattle.defects.specs.Judging.{has_wrong_flags, opening_tests, later_tests, front_tests, entry_tests, list_tests}
use Rattle.defects.specs.Place.{data_fields, place_of}
use Rattle.defects.specs.Walk.{after, field_at, walk_at, defects_before, tests_at, tests_from}
use Rattle.defects.specs.Encoding.{list_from, sets_for, is_unordered, front_octets, body_octets, data_field, sets_from, map_octets, is_listable, are_listable, fits, is_encodable}
use Rattle.defects.specs.Sectors.{field_start, sector_field, sector_fields, stored_fields}

unfoldable pub computing_maps : Unit {0}
unfolding pick within_limits all_words sector_number sector_start first_of tests_over crc_of remainder_after number_at defect_octets is_blank address front_of defects_from has_wrong_flags opening_tests later_tests front_tests entry_tests list_tests data_fields place_of after field_at walk_at defects_before tests_at tests_from list_from sets_for is_unordered front_octets body_octets data_field sets_from map_octets is_listable are_listable fits is_encodable field_start sector_field sector_fields stored_fields
computing_maps = tt
