-- Every no, by number: the numbers of document 01's table, under its names, and those of later requests. An answer that is no refusal
-- has the number `none`.
use Rattle.std.specs.Prelude.{ℕ}

abbrev pub none : ℕ
none = 0

abbrev pub bad_cap : ℕ
bad_cap = 1

abbrev pub full : ℕ
full = 2

abbrev pub empty : ℕ
empty = 3

abbrev pub busy : ℕ
busy = 4

abbrev pub cancelled : ℕ
cancelled = 5

abbrev pub no_mailbox : ℕ
no_mailbox = 6

abbrev pub no_endpoint : ℕ
no_endpoint = 7

abbrev pub out_of_range : ℕ
out_of_range = 8

abbrev pub vacant : ℕ
vacant = 9

abbrev pub bad_slot : ℕ
bad_slot = 10

abbrev pub bad_from_slot : ℕ
bad_from_slot = 11

abbrev pub to_slot_full : ℕ
to_slot_full = 12

abbrev pub to_slot_oob : ℕ
to_slot_oob = 13

abbrev pub untransferable : ℕ
untransferable = 14

abbrev pub no_free_entry : ℕ
no_free_entry = 15

abbrev pub no_such_capability : ℕ
no_such_capability = 16

abbrev pub packet_pool_required : ℕ
packet_pool_required = 17

abbrev pub held_vacant : ℕ
held_vacant = 18

abbrev pub bad_row : ℕ
bad_row = 19

abbrev pub bad_sizes : ℕ
bad_sizes = 20

abbrev pub bad_word : ℕ
bad_word = 21

abbrev pub bad_mark : ℕ
bad_mark = 22

abbrev pub bad_op : ℕ
bad_op = 23

abbrev pub short : ℕ
short = 24

abbrev pub bad_operand : ℕ
bad_operand = 25

abbrev pub no_room : ℕ
no_room = 26

abbrev pub bad_table : ℕ
bad_table = 27

abbrev pub too_long : ℕ
too_long = 28

-- the dispatcher's
abbrev pub no_variant : ℕ
no_variant = 29

abbrev pub jobs_full : ℕ
jobs_full = 30

abbrev pub bad_variants : ℕ
bad_variants = 37

abbrev pub no_job : ℕ
no_job = 38
