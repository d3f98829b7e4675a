-- The contract, part by part. Assumes nothing.
use Rattle.error_write.specs.Written.{delimited, attribute_bytes}
use Rattle.error_table.specs.Table.{key_in, key_length_in, value_in, value_length_in}
use Rattle.words.specs.Buffer.{stretch}
use Rattle.error_table.proofs.SoundLaws.{key_inside, value_inside}
use native.Mathlib.Omega.{arith}
use Rattle.error_write.proofs.PutLaws.{first_room, next_place, next_room, next_fits, next_put, attribute_is}
use Rattle.error_write.proofs.write.put_attribute.Goals as goal

pub put_stretch-at-requires : goal.put_stretch-at-requires
put_stretch-at-requires c =
    (key_inside c.requires.0 _ c.requires.1, first_room (attribute_bytes c.args.tables.area.now c.args.tables.attributes.now c.args.k) (delimited 0x0a (stretch c.args.tables.area.now (key_in c.args.tables.attributes.now c.args.k) (key_length_in c.args.tables.attributes.now c.args.k))) (delimited 0x12 (stretch c.args.tables.area.now (value_in c.args.tables.attributes.now c.args.k) (value_length_in c.args.tables.attributes.now c.args.k))) c.args.out.now (attribute_is c.args.tables.area.now c.args.tables.attributes.now c.args.k) c.requires.2)

pub slice_bounds-put_stretch-count : goal.slice_bounds-put_stretch-count
slice_bounds-put_stretch-count c =
    next_place (attribute_bytes c.args.tables.area.now c.args.tables.attributes.now c.args.k) (delimited 0x0a (stretch c.args.tables.area.now (key_in c.args.tables.attributes.now c.args.k) (key_length_in c.args.tables.attributes.now c.args.k))) (delimited 0x12 (stretch c.args.tables.area.now (value_in c.args.tables.attributes.now c.args.k) (value_length_in c.args.tables.attributes.now c.args.k))) c.args.out.now (attribute_is c.args.tables.area.now c.args.tables.attributes.now c.args.k) c.requires.2 c.put_stretch-at.new.out _ c.put_stretch-at.ensures

pub slice_bounds-put_stretch-start : goal.slice_bounds-put_stretch-start
slice_bounds-put_stretch-start c =
    next_place (attribute_bytes c.args.tables.area.now c.args.tables.attributes.now c.args.k) (delimited 0x0a (stretch c.args.tables.area.now (key_in c.args.tables.attributes.now c.args.k) (key_length_in c.args.tables.attributes.now c.args.k))) (delimited 0x12 (stretch c.args.tables.area.now (value_in c.args.tables.attributes.now c.args.k) (value_length_in c.args.tables.attributes.now c.args.k))) c.args.out.now (attribute_is c.args.tables.area.now c.args.tables.attributes.now c.args.k) c.requires.2 c.put_stretch-at.new.out _ c.put_stretch-at.ensures

pub put_stretch-requires : goal.put_stretch-requires
put_stretch-requires c =
    let put-stretch = c.put_stretch-at in
    (value_inside c.requires.0 _ c.requires.1, next_room (attribute_bytes c.args.tables.area.now c.args.tables.attributes.now c.args.k) (delimited 0x0a (stretch c.args.tables.area.now (key_in c.args.tables.attributes.now c.args.k) (key_length_in c.args.tables.attributes.now c.args.k))) (delimited 0x12 (stretch c.args.tables.area.now (value_in c.args.tables.attributes.now c.args.k) (value_length_in c.args.tables.attributes.now c.args.k))) c.args.out.now (attribute_is c.args.tables.area.now c.args.tables.attributes.now c.args.k) c.requires.2 put-stretch.new.out _ put-stretch.ensures)

pub overflow_add-result : goal.overflow_add-result
overflow_add-result c =
    let put-stretch = c.put_stretch-at in
    omega (arith, next_fits (attribute_bytes c.args.tables.area.now c.args.tables.attributes.now c.args.k) (delimited 0x0a (stretch c.args.tables.area.now (key_in c.args.tables.attributes.now c.args.k) (key_length_in c.args.tables.attributes.now c.args.k))) (delimited 0x12 (stretch c.args.tables.area.now (value_in c.args.tables.attributes.now c.args.k) (value_length_in c.args.tables.attributes.now c.args.k))) c.args.out.now (attribute_is c.args.tables.area.now c.args.tables.attributes.now c.args.k) c.requires.2 put-stretch.new.out _ put-stretch.ensures c.put_stretch.ensures.0)

pub returns : goal.returns
returns c =
    let put-stretch = c.put_stretch-at in
    next_put (attribute_bytes c.args.tables.area.now c.args.tables.attributes.now c.args.k) (delimited 0x0a (stretch c.args.tables.area.now (key_in c.args.tables.attributes.now c.args.k) (key_length_in c.args.tables.attributes.now c.args.k))) (delimited 0x12 (stretch c.args.tables.area.now (value_in c.args.tables.attributes.now c.args.k) (value_length_in c.args.tables.attributes.now c.args.k))) c.args.out.now (attribute_is c.args.tables.area.now c.args.tables.attributes.now c.args.k) c.requires.2 put-stretch.new.out _ put-stretch.ensures c.put_stretch.new.out _ c.put_stretch.ensures
