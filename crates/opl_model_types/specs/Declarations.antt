-- The types of declarations, as those above name them.
pub use Rattle.opl_declaration_types.specs.Declarations.{known_type, named_type, type_layer, no_dimensions, fresh_in, with_dimension, dimensions, all_dims, shaped, initial_kinds, cells_left, cell_indices, makes, number_kinds, maybe_number, shape, data_decl, range_decl, enum_names, with_names, enum_decl, field_list, struct_decl, variable_type, bounds_kinds, is_decidable, variable_decl, activity_decl, unary_decl, discrete_decl, is_given, given, schedule_decl, next, all_decls, Dimensions, Shape}
unfoldable pub use Rattle.opl_declaration_types.specs.Declarations.{written_type, decl, initial, initial_cells, initial_pairs}
